use Rattle.std.proofs.Common.{[], subst, sym, IfOk}
use Rattle.web_data.specs.StatementReading.{run}
use Rattle.db_text.specs.Answers.{Gives, form_left}
use Rattle.db_text.proofs.forms.read_form.Goals as goal

pub returns-in-Insert : goal.returns-in-Insert
returns-in-Insert c = subst (λ f. IfOk c.read_parts-in-Insert.result (λ reading. Gives (run [] (form_left f) c.args.bytes.now 0) reading)) (sym c.in-Insert.is) c.read_parts-in-Insert.ensures

pub returns-in-Delete : goal.returns-in-Delete
returns-in-Delete c = subst (λ f. IfOk c.read_parts-in-Delete.result (λ reading. Gives (run [] (form_left f) c.args.bytes.now 0) reading)) (sym c.in-Delete.is) c.read_parts-in-Delete.ensures

pub returns-in-One : goal.returns-in-One
returns-in-One c = subst (λ f. IfOk c.read_parts-in-One.result (λ reading. Gives (run [] (form_left f) c.args.bytes.now 0) reading)) (sym c.in-One.is) c.read_parts-in-One.ensures
