use Rattle.std.proofs.Common.{append_assoc}
use Rattle.sml_print.proofs.PrintedParts.{pat_tuple, pat_list, pat_con, pat_typed}
use Rattle.sml_print.proofs.patterns.+printed_patterns.Goals as goal

pub print_pat-returns-in_ok-mark-in-Tuple-2 : goal.print_pat-returns-in_ok-mark-in-Tuple-2
print_pat-returns-in_ok-mark-in-Tuple-2 t c = rw (c.in_ok-mark-in-Tuple-2.ensures, c.in_ok-print_pats-in-Tuple.ensures, c.in_ok-mark-in-Tuple.ensures, pat_tuple c.args.pat.now _ c.in-Tuple.is) (simp append_assoc)

pub print_pat-returns-in_ok-mark-in-List-2 : goal.print_pat-returns-in_ok-mark-in-List-2
print_pat-returns-in_ok-mark-in-List-2 t c = rw (c.in_ok-mark-in-List-2.ensures, c.in_ok-print_pats-in-List.ensures, c.in_ok-mark-in-List.ensures, pat_list c.args.pat.now _ c.in-List.is) (simp append_assoc)

pub print_pat-returns-in_ok-print_applied-in-Con : goal.print_pat-returns-in_ok-print_applied-in-Con
print_pat-returns-in_ok-print_applied-in-Con t c = cc (pat_con c.args.pat.now _ _ c.in-Con.is, c.get.ensures, c.in_ok-print_applied-in-Con.ensures)

pub print_pat-returns-in_ok-print_ty-in-Typed : goal.print_pat-returns-in_ok-print_ty-in-Typed
print_pat-returns-in_ok-print_ty-in-Typed t c = rw (c.in_ok-print_ty-in-Typed.ensures, c.in_ok-mark-in-Typed.ensures, c.in_ok-put_pat-in-Typed.ensures, c.get-in-Typed.ensures, pat_typed c.args.pat.now _ _ c.in-Typed.is) (simp append_assoc)
