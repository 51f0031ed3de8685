use Rattle.std.proofs.Common.{refl, ap}
use Rattle.hm_infer.specs.Numbering.{numbered_end, a_dec, dec_trees}
use Rattle.hm_infer.proofs.Forms.{dec-abbrev, dec-datadef, dec-exndef}
use Rattle.hm_infer.proofs.Numberings.{numbered-tree, numbered-as, on_ok-of}
use Rattle.hm_infer.proofs.inference.Inference.item.Goals as goal

pub returns-in-Abbrev : goal.returns-in-Abbrev
returns-in-Abbrev c = on_ok-of _ (numbered-tree (a_dec c.args.d.now) _ _ _ _ refl (numbered-as _ _ (ap dec_trees (dec-abbrev _ c.in-Abbrev.is)) numbered_end) refl)

pub returns-in-DataDef : goal.returns-in-DataDef
returns-in-DataDef c = on_ok-of _ (numbered-tree (a_dec c.args.d.now) _ _ _ _ refl (numbered-as _ _ (ap dec_trees (dec-datadef _ c.in-DataDef.is)) numbered_end) refl)

pub returns-in-ExnDef : goal.returns-in-ExnDef
returns-in-ExnDef c = on_ok-of _ (numbered-tree (a_dec c.args.d.now) _ _ _ _ refl (numbered-as _ _ (ap dec_trees (dec-exndef _ c.in-ExnDef.is)) numbered_end) refl)
