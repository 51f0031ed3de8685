use Rattle.std.proofs.Common.{◌/◌, ◌%◌, set, ap, ◌∙◌, arith}
use Rattle.std.proofs.lemmas.Nat.{div-add-mod'}
use Rattle.kam_store.specs.Joined.{joined}
use Rattle.kam_store.proofs.Joined.{joined-set, numbers-set}
use Rattle.kam_store.proofs.paging.put_word.Goals as goal

pub returns-clause-words : goal.returns-clause-words
returns-clause-words c =
    let ps = c.args.pages.now in
    joined-set ps (c.args.at / 128) (c.args.at % 128) c.args.word c.put.new.self c.index-pages-at.result (omega arith) (omega arith) c.put.ensures.words
    ∙ ap (λ i. set (joined ps) i c.args.word) (div-add-mod' c.args.at 128)

pub returns-clause-numbers : goal.returns-clause-numbers
returns-clause-numbers c = numbers-set c.args.pages.now (c.args.at / 128) c.put.new.self c.index-pages-at.result (omega arith) c.put.ensures.number
