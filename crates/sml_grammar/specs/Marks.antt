-- How marks are spelled, and when two are the same.
-- The Definition of Standard ML, sections 2.1 and 3.1: reserved words.
use Rattle.std.specs.Prelude.{ℕ, ◌==◌, List, Bool, Option, Some, None, cond, codes}
use Rattle.std.specs.Str.{bytes_eq}
use Rattle.sml_grammar.specs.declared.mark.Mark.{Mark}
use Rattle.sml_grammar.specs.declared.mark.Mark.TheVariants as m

-- the place of a mark among all
unfoldable pub mark_number : Mark → ℕ
mark_number m.And = 0
mark_number m.AndAlso = 1
mark_number m.Case = 2
mark_number m.Datatype = 3
mark_number m.Else = 4
mark_number m.End = 5
mark_number m.Exception = 6
mark_number m.Fn = 7
mark_number m.Fun = 8
mark_number m.Handle = 9
mark_number m.If = 10
mark_number m.In = 11
mark_number m.Let = 12
mark_number m.Local = 13
mark_number m.Of = 14
mark_number m.Op = 15
mark_number m.OrElse = 16
mark_number m.Raise = 17
mark_number m.Rec = 18
mark_number m.Then = 19
mark_number m.TypeWord = 20
mark_number m.Val = 21
mark_number m.Colon = 22
mark_number m.Bar = 23
mark_number m.Equal = 24
mark_number m.DoubleArrow = 25
mark_number m.Arrow = 26
mark_number m.Open = 27
mark_number m.Close = 28
mark_number m.OpenBracket = 29
mark_number m.CloseBracket = 30
mark_number m.Comma = 31
mark_number m.Semicolon = 32
mark_number m.Wildcard = 33

unfoldable pub same_mark : Mark → Mark → Bool
same_mark a b = mark_number a == mark_number b

-- the words before `in`
unfoldable pub early_word : List ℕ → Option Mark
early_word text =
    cond (bytes_eq text (codes "and")) (Some m.And)
    (cond (bytes_eq text (codes "andalso")) (Some m.AndAlso)
    (cond (bytes_eq text (codes "case")) (Some m.Case)
    (cond (bytes_eq text (codes "datatype")) (Some m.Datatype)
    (cond (bytes_eq text (codes "else")) (Some m.Else)
    (cond (bytes_eq text (codes "end")) (Some m.End)
    (cond (bytes_eq text (codes "exception")) (Some m.Exception)
    (cond (bytes_eq text (codes "fn")) (Some m.Fn)
    (cond (bytes_eq text (codes "fun")) (Some m.Fun)
    (cond (bytes_eq text (codes "handle")) (Some m.Handle)
    (cond (bytes_eq text (codes "if")) (Some m.If) None))))))))))

-- the words from `in` on
unfoldable pub late_word : List ℕ → Option Mark
late_word text =
    cond (bytes_eq text (codes "in")) (Some m.In)
    (cond (bytes_eq text (codes "let")) (Some m.Let)
    (cond (bytes_eq text (codes "local")) (Some m.Local)
    (cond (bytes_eq text (codes "of")) (Some m.Of)
    (cond (bytes_eq text (codes "op")) (Some m.Op)
    (cond (bytes_eq text (codes "orelse")) (Some m.OrElse)
    (cond (bytes_eq text (codes "raise")) (Some m.Raise)
    (cond (bytes_eq text (codes "rec")) (Some m.Rec)
    (cond (bytes_eq text (codes "then")) (Some m.Then)
    (cond (bytes_eq text (codes "type")) (Some m.TypeWord)
    (cond (bytes_eq text (codes "val")) (Some m.Val) None))))))))))

-- symbols and punctuation
unfoldable pub symbol_mark : List ℕ → Option Mark
symbol_mark text =
    cond (bytes_eq text (codes ":")) (Some m.Colon)
    (cond (bytes_eq text (codes "|")) (Some m.Bar)
    (cond (bytes_eq text (codes "=")) (Some m.Equal)
    (cond (bytes_eq text (codes "=>")) (Some m.DoubleArrow)
    (cond (bytes_eq text (codes "->")) (Some m.Arrow)
    (cond (bytes_eq text (codes "(")) (Some m.Open)
    (cond (bytes_eq text (codes ")")) (Some m.Close)
    (cond (bytes_eq text (codes "[")) (Some m.OpenBracket)
    (cond (bytes_eq text (codes "]")) (Some m.CloseBracket)
    (cond (bytes_eq text (codes ",")) (Some m.Comma)
    (cond (bytes_eq text (codes ";")) (Some m.Semicolon)
    (cond (bytes_eq text (codes "_")) (Some m.Wildcard) None)))))))))))

abbrev pub first_mark : Option Mark → Option Mark → Option Mark
first_mark None other = other
first_mark (Some mark) other = Some mark

-- the mark that is spelled so
unfoldable pub mark_of : List ℕ → Option Mark
mark_of text = first_mark (early_word text) (first_mark (late_word text) (symbol_mark text))
