use Rattle.std.proofs.Common.{◌≡◌}
use Rattle.outside_world.specs.Told.{grown}
use Rattle.smlserver_top.proofs.EndLaws.{end_status, bad_words, bad_words_only, refused, not_found, page, checked}
use Rattle.smlserver_top.proofs.run.run_words.Goals as goal

pub returns-clause-statuses : goal.returns-clause-statuses
returns-clause-statuses g c = end_status _ _ _ _ _ (λ text. g.K.Sink.written c.write_answer.new.output ≡ grown (g.K.Sink.written c.args.output.now) text) c.write_answer.ensures.told

pub returns-clause-bad_words : goal.returns-clause-bad_words
returns-clause-bad_words g c = bad_words _ _ _ _ _ (λ text. g.K.Sink.written c.write_answer.new.output ≡ grown (g.K.Sink.written c.args.output.now) text) c.write_answer.ensures.told

pub returns-clause-bad_words_only : goal.returns-clause-bad_words_only
returns-clause-bad_words_only g c = bad_words_only _ _ _ _ _ (λ text. g.K.Sink.written c.write_answer.new.output ≡ grown (g.K.Sink.written c.args.output.now) text) c.write_answer.ensures.told

pub returns-clause-refused : goal.returns-clause-refused
returns-clause-refused g c = refused _ _ _ _ _ (λ text. g.K.Sink.written c.write_answer.new.output ≡ grown (g.K.Sink.written c.args.output.now) text) c.write_answer.ensures.told

pub returns-clause-not_found : goal.returns-clause-not_found
returns-clause-not_found g c = not_found _ _ _ _ _ (λ text. g.K.Sink.written c.write_answer.new.output ≡ grown (g.K.Sink.written c.args.output.now) text) c.write_answer.ensures.told

pub returns-clause-page : goal.returns-clause-page
returns-clause-page g c project path = page _ _ _ _ _ (λ text. g.K.Sink.written c.write_answer.new.output ≡ grown (g.K.Sink.written c.args.output.now) text) project path c.write_answer.ensures.told

pub returns-clause-checked : goal.returns-clause-checked
returns-clause-checked g c project = checked _ _ _ _ _ (λ text. g.K.Sink.written c.write_answer.new.output ≡ grown (g.K.Sink.written c.args.output.now) text) project c.write_answer.ensures.told
