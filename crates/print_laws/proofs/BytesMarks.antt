-- The marks and words that are printed are read as marks.
use Rattle.std.specs.Prelude.{refl, Bool, false, codes}
use Rattle.sml_syntax.specs.declared.token.TokenForm.TheVariants as f
use Rattle.grammar_rules.specs.Spelling.{class, mark_class, names, word_kind, symbol_kind}
use Rattle.print_laws.specs.Spelled.{spelling, gap}
use Rattle.print_laws.specs.Bytes.{Stands}

pub close : Stands false (f.Mark (codes ")"))
unfolding class mark_class spelling gap
close = record { blank = refl; reads = λ n. refl }

pub star : (ends : Bool) → Stands ends (f.Name (codes "*"))
unfolding class mark_class symbol_kind spelling gap
star ends = record { blank = refl; reads = λ n. refl }

pub cons : (ends : Bool) → Stands ends (f.Name (codes "::"))
unfolding class mark_class symbol_kind spelling gap
cons ends = record { blank = refl; reads = λ n. refl }

pub open_paren : (ends : Bool) → Stands ends (f.Mark (codes "("))
unfolding class mark_class symbol_kind spelling gap
open_paren ends = record { blank = refl; reads = λ n. refl }

pub comma : (ends : Bool) → Stands ends (f.Mark (codes ","))
unfolding class mark_class symbol_kind spelling gap
comma ends = record { blank = refl; reads = λ n. refl }

pub open_list : (ends : Bool) → Stands ends (f.Mark (codes "["))
unfolding class mark_class symbol_kind spelling gap
open_list ends = record { blank = refl; reads = λ n. refl }

pub close_list : (ends : Bool) → Stands ends (f.Mark (codes "]"))
unfolding class mark_class symbol_kind spelling gap
close_list ends = record { blank = refl; reads = λ n. refl }

pub wild : (ends : Bool) → Stands ends (f.Mark (codes "_"))
unfolding class mark_class symbol_kind spelling gap
wild ends = record { blank = refl; reads = λ n. refl }

pub semicolon : (ends : Bool) → Stands ends (f.Mark (codes ";"))
unfolding class mark_class symbol_kind spelling gap
semicolon ends = record { blank = refl; reads = λ n. refl }

pub colon : (ends : Bool) → Stands ends (f.Mark (codes ":"))
unfolding class mark_class symbol_kind spelling gap
colon ends = record { blank = refl; reads = λ n. refl }

pub arrow : (ends : Bool) → Stands ends (f.Mark (codes "=>"))
unfolding class mark_class symbol_kind spelling gap
arrow ends = record { blank = refl; reads = λ n. refl }

pub bar : (ends : Bool) → Stands ends (f.Mark (codes "|"))
unfolding class mark_class symbol_kind spelling gap
bar ends = record { blank = refl; reads = λ n. refl }

pub to : (ends : Bool) → Stands ends (f.Mark (codes "->"))
unfolding class mark_class symbol_kind spelling gap
to ends = record { blank = refl; reads = λ n. refl }

pub equals : (ends : Bool) → Stands ends (f.Mark (codes "="))
unfolding class mark_class symbol_kind spelling gap
equals ends = record { blank = refl; reads = λ n. refl }

pub word_op : (ends : Bool) → Stands ends (f.Mark (codes "op"))
unfolding class names word_kind spelling gap
word_op ends = record { blank = refl; reads = λ n. refl }

pub word_let : (ends : Bool) → Stands ends (f.Mark (codes "let"))
unfolding class names word_kind spelling gap
word_let ends = record { blank = refl; reads = λ n. refl }

pub word_in : (ends : Bool) → Stands ends (f.Mark (codes "in"))
unfolding class names word_kind spelling gap
word_in ends = record { blank = refl; reads = λ n. refl }

pub word_end : (ends : Bool) → Stands ends (f.Mark (codes "end"))
unfolding class names word_kind spelling gap
word_end ends = record { blank = refl; reads = λ n. refl }

pub word_fn : (ends : Bool) → Stands ends (f.Mark (codes "fn"))
unfolding class names word_kind spelling gap
word_fn ends = record { blank = refl; reads = λ n. refl }

pub word_case : (ends : Bool) → Stands ends (f.Mark (codes "case"))
unfolding class names word_kind spelling gap
word_case ends = record { blank = refl; reads = λ n. refl }

pub word_of : (ends : Bool) → Stands ends (f.Mark (codes "of"))
unfolding class names word_kind spelling gap
word_of ends = record { blank = refl; reads = λ n. refl }

pub word_handle : (ends : Bool) → Stands ends (f.Mark (codes "handle"))
unfolding class names word_kind spelling gap
word_handle ends = record { blank = refl; reads = λ n. refl }

pub word_raise : (ends : Bool) → Stands ends (f.Mark (codes "raise"))
unfolding class names word_kind spelling gap
word_raise ends = record { blank = refl; reads = λ n. refl }

pub word_if : (ends : Bool) → Stands ends (f.Mark (codes "if"))
unfolding class names word_kind spelling gap
word_if ends = record { blank = refl; reads = λ n. refl }

pub word_then : (ends : Bool) → Stands ends (f.Mark (codes "then"))
unfolding class names word_kind spelling gap
word_then ends = record { blank = refl; reads = λ n. refl }

pub word_else : (ends : Bool) → Stands ends (f.Mark (codes "else"))
unfolding class names word_kind spelling gap
word_else ends = record { blank = refl; reads = λ n. refl }

pub word_andalso : (ends : Bool) → Stands ends (f.Mark (codes "andalso"))
unfolding class names word_kind spelling gap
word_andalso ends = record { blank = refl; reads = λ n. refl }

pub word_orelse : (ends : Bool) → Stands ends (f.Mark (codes "orelse"))
unfolding class names word_kind spelling gap
word_orelse ends = record { blank = refl; reads = λ n. refl }

pub word_val : (ends : Bool) → Stands ends (f.Mark (codes "val"))
unfolding class names word_kind spelling gap
word_val ends = record { blank = refl; reads = λ n. refl }

pub word_fun : (ends : Bool) → Stands ends (f.Mark (codes "fun"))
unfolding class names word_kind spelling gap
word_fun ends = record { blank = refl; reads = λ n. refl }

pub word_and : (ends : Bool) → Stands ends (f.Mark (codes "and"))
unfolding class names word_kind spelling gap
word_and ends = record { blank = refl; reads = λ n. refl }

pub word_type : (ends : Bool) → Stands ends (f.Mark (codes "type"))
unfolding class names word_kind spelling gap
word_type ends = record { blank = refl; reads = λ n. refl }

pub word_datatype : (ends : Bool) → Stands ends (f.Mark (codes "datatype"))
unfolding class names word_kind spelling gap
word_datatype ends = record { blank = refl; reads = λ n. refl }

pub word_exception : (ends : Bool) → Stands ends (f.Mark (codes "exception"))
unfolding class names word_kind spelling gap
word_exception ends = record { blank = refl; reads = λ n. refl }

pub word_local : (ends : Bool) → Stands ends (f.Mark (codes "local"))
unfolding class names word_kind spelling gap
word_local ends = record { blank = refl; reads = λ n. refl }
