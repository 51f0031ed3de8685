use Rattle.kam_code.proofs.Packed.{bytes_of_all}
use Rattle.kam_code.proofs.Regions.{text_behind-made}
use Rattle.kam_code.proofs.laws.text_is_made.Goals as goal

pub returns : goal.returns
returns c = λ serial words text regions all e l. text_behind-made serial words text regions (bytes_of_all text all) e l
