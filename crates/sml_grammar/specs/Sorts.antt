-- What the machine sees of a token.
use Rattle.std.specs.Prelude.{ℕ, ◌==◌, List, length, Bool, true, false, Option, Some, None, cond, codes}
use Rattle.std.specs.Str.{bytes_eq}
use Rattle.sml_syntax.specs.declared.token.TokenForm.{TokenForm}
use Rattle.sml_syntax.specs.declared.token.TokenForm.TheVariants as f
use Rattle.grammar_rules.specs.InfixNames.{infix_level}
use Rattle.sml_grammar.specs.declared.mark.Mark.{Mark}
use Rattle.sml_grammar.specs.declared.mark.Mark.TheVariants as m
use Rattle.sml_grammar.specs.declared.token_sort.TokenSort.{TokenSort}
use Rattle.sml_grammar.specs.declared.token_sort.TokenSort.TheVariants as o
use Rattle.sml_grammar.specs.Marks.{same_mark, mark_of}

abbrev pub infix_sort : Option ℕ → TokenSort
infix_sort None = o.Name
infix_sort (Some level) = o.Infix level

unfoldable pub name_sort : List ℕ → TokenSort
name_sort name = cond (bytes_eq name (codes "*")) o.Star (cond (bytes_eq name (codes "::")) o.Cons (infix_sort (infix_level name)))

abbrev pub found_sort : Option Mark → TokenSort
found_sort None = o.Other
found_sort (Some mark) = o.Mark mark

unfoldable pub mark_sort : List ℕ → TokenSort
mark_sort text = found_sort (mark_of text)

unfoldable pub plain_sort : List ℕ → TokenSort
plain_sort text = cond (length text == 0) o.Other o.Plain

-- what the machine sees of a token
unfoldable pub sort_of : TokenForm → TokenSort
sort_of (f.Int number) = o.Int number
sort_of (f.Char byte) = o.Char byte
sort_of (f.Str text) = o.Str
sort_of (f.Name name) = name_sort name
sort_of (f.Long name) = o.Long
sort_of (f.TyVar name) = o.TyVar
sort_of (f.Mark text) = mark_sort text
sort_of f.QuoteFrom = o.QuoteFrom
sort_of (f.Plain text) = plain_sort text
sort_of (f.Anti name) = o.Anti
sort_of f.AntiFrom = o.AntiFrom
sort_of f.AntiTo = o.AntiTo
sort_of f.QuoteTo = o.QuoteTo

-- a mark, and that one
unfoldable pub is_mark : Mark → TokenSort → Bool
is_mark mark (o.Mark found) = same_mark found mark
is_mark mark _ = false

-- the level of an infix name
unfoldable pub level_of : TokenSort → ℕ
level_of (o.Infix level) = level
level_of o.Star = 7
level_of o.Cons = 5
level_of (o.Mark mark) = 4
level_of _ = 0

-- marks that begin an atomic expression
unfoldable pub atom_mark : Mark → Bool
atom_mark mark =
    cond (same_mark mark m.Op) true
    (cond (same_mark mark m.Open) true
    (cond (same_mark mark m.OpenBracket) true
    (cond (same_mark mark m.Let) true false)))

-- marks that begin an expression that takes all it can
unfoldable pub tail_mark : Mark → Bool
tail_mark mark =
    cond (same_mark mark m.Raise) true
    (cond (same_mark mark m.If) true
    (cond (same_mark mark m.Case) true
    (cond (same_mark mark m.Fn) true false)))

-- marks that begin a pattern
unfoldable pub pattern_mark : Mark → Bool
pattern_mark mark =
    cond (same_mark mark m.Wildcard) true
    (cond (same_mark mark m.Op) true
    (cond (same_mark mark m.Open) true
    (cond (same_mark mark m.OpenBracket) true false)))

-- marks that begin a declaration
unfoldable pub declaration_mark : Mark → Bool
declaration_mark mark =
    cond (same_mark mark m.Val) true
    (cond (same_mark mark m.Fun) true
    (cond (same_mark mark m.TypeWord) true
    (cond (same_mark mark m.Datatype) true
    (cond (same_mark mark m.Exception) true
    (cond (same_mark mark m.Local) true false)))))

-- marks that end the patterns of a clause
unfoldable pub body_mark : Mark → Bool
body_mark mark =
    cond (same_mark mark m.Colon) true
    (cond (same_mark mark m.Equal) true false)

-- `(`
unfoldable pub open_mark : Mark → Bool
open_mark mark =
    cond (same_mark mark m.Open) true false

-- `=`
unfoldable pub equal_mark : Mark → Bool
equal_mark mark =
    cond (same_mark mark m.Equal) true false

-- a token that begins an atomic expression
unfoldable pub begins_atom : TokenSort → Bool
begins_atom (o.Int n) = true
begins_atom (o.Char n) = true
begins_atom o.Str = true
begins_atom o.Name = true
begins_atom o.Long = true
begins_atom o.QuoteFrom = true
begins_atom (o.Mark mark) = atom_mark mark
begins_atom _ = false

-- a token that begins an expression that takes all it can
unfoldable pub begins_tail : TokenSort → Bool
begins_tail (o.Mark mark) = tail_mark mark
begins_tail _ = false

-- a token that begins a pattern
unfoldable pub begins_pat : TokenSort → Bool
begins_pat (o.Int n) = true
begins_pat (o.Char n) = true
begins_pat o.Str = true
begins_pat o.Name = true
begins_pat o.Long = true
begins_pat (o.Mark mark) = pattern_mark mark
begins_pat _ = false

-- a token that begins a type
unfoldable pub begins_ty : TokenSort → Bool
begins_ty o.TyVar = true
begins_ty o.Name = true
begins_ty o.Long = true
begins_ty (o.Mark mark) = open_mark mark
begins_ty _ = false

-- a token that begins a declaration
unfoldable pub begins_dec : TokenSort → Bool
begins_dec (o.Mark mark) = declaration_mark mark
begins_dec _ = false

-- a token that ends the patterns of a clause
unfoldable pub begins_body : TokenSort → Bool
begins_body (o.Mark mark) = body_mark mark
begins_body _ = false

-- an infix name of expressions
unfoldable pub is_infix : TokenSort → Bool
is_infix (o.Infix n) = true
is_infix o.Star = true
is_infix o.Cons = true
is_infix (o.Mark mark) = equal_mark mark
is_infix _ = false

-- an infix name that may be bound
unfoldable pub is_infix_name : TokenSort → Bool
is_infix_name (o.Infix n) = true
is_infix_name o.Star = true
is_infix_name o.Cons = true
is_infix_name _ = false

-- a name, infix or not
unfoldable pub is_any_name : TokenSort → Bool
is_any_name o.Name = true
is_any_name (o.Infix n) = true
is_any_name o.Star = true
is_any_name o.Cons = true
is_any_name _ = false

-- what may follow `op` in an expression
unfoldable pub is_op_name : TokenSort → Bool
is_op_name o.Name = true
is_op_name (o.Infix n) = true
is_op_name o.Star = true
is_op_name o.Cons = true
is_op_name (o.Mark mark) = equal_mark mark
is_op_name _ = false

-- a name that isn't infix, or a long one
unfoldable pub is_type_name : TokenSort → Bool
is_type_name o.Name = true
is_type_name o.Long = true
is_type_name _ = false

-- a name that isn't infix
unfoldable pub is_name : TokenSort → Bool
is_name o.Name = true
is_name _ = false

-- a type variable
unfoldable pub is_ty_var : TokenSort → Bool
is_ty_var o.TyVar = true
is_ty_var _ = false

-- `*`
unfoldable pub is_star : TokenSort → Bool
is_star o.Star = true
is_star _ = false

-- `::`
unfoldable pub is_cons : TokenSort → Bool
is_cons o.Cons = true
is_cons _ = false

-- a piece of a quotation's text
unfoldable pub is_plain : TokenSort → Bool
is_plain o.Plain = true
is_plain _ = false

-- an antiquoted name
unfoldable pub is_anti : TokenSort → Bool
is_anti o.Anti = true
is_anti _ = false

-- the beginning of an antiquoted expression
unfoldable pub is_anti_from : TokenSort → Bool
is_anti_from o.AntiFrom = true
is_anti_from _ = false

-- the end of an antiquoted expression
unfoldable pub is_anti_to : TokenSort → Bool
is_anti_to o.AntiTo = true
is_anti_to _ = false

-- the end of a quotation
unfoldable pub is_quote_to : TokenSort → Bool
is_quote_to o.QuoteTo = true
is_quote_to _ = false

-- a token that begins an expression
unfoldable pub begins_exp : TokenSort → Bool
begins_exp sort = cond (begins_atom sort) true (begins_tail sort)
