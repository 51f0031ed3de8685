use Rattle.kam_code.proofs.Packed.{bytes_of_all, text_from-text_words}
use Rattle.kam_code.proofs.laws.text_is_read_back.Goals as goal

pub returns : goal.returns
returns c = λ text back all. text_from-text_words text back (bytes_of_all text all)
