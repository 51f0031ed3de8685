use Rattle.std.proofs.Common.{append_assoc}
use Rattle.sml_print.proofs.PrintedParts.{ty_con, ty_tuple, ty_arrow}
use Rattle.sml_print.proofs.types.+printed_types.Goals as goal

pub print_ty-returns-in_ok-print_con-in-Con : goal.print_ty-returns-in_ok-print_con-in-Con
print_ty-returns-in_ok-print_con-in-Con t c = cc (ty_con c.args.ty.now _ _ c.in-Con.is, c.in_ok-print_con-in-Con.ensures)

pub print_ty-returns-in_ok-print_starred-in-Tuple : goal.print_ty-returns-in_ok-print_starred-in-Tuple
print_ty-returns-in_ok-print_starred-in-Tuple t c = cc (ty_tuple c.args.ty.now _ c.in-Tuple.is, c.in_ok-print_starred-in-Tuple.ensures)

pub print_ty-returns-in_ok-print_ty-in-Arrow : goal.print_ty-returns-in_ok-print_ty-in-Arrow
print_ty-returns-in_ok-print_ty-in-Arrow t c = rw (c.in_ok-print_ty-in-Arrow.ensures, c.in_ok-mark-in-Arrow.ensures, c.in_ok-put_ty-in-Arrow.ensures, c.get.ensures, c.get-in-Arrow.ensures, ty_arrow c.args.ty.now _ _ c.in-Arrow.is) (simp append_assoc)
