use Rattle.std.proofs.Common.{◌<◌, ◌+◌, length, take, ap, ◌∙◌, arith}
use Rattle.kam_store.specs.Joined.{joined}
use Rattle.kam_store.proofs.Joined.{length-joined}
use Rattle.kam_store.proofs.LastPage.{written_more}
use Rattle.kam_store.proofs.paging.write.Goals as goal

pub loop-word-preserved : goal.loop-word-preserved
loop-word-preserved c =
    let i = c.loop-word.invariant in
    let row = joined c.loop-word.pages in
    let inside : c.loop-word.at < length row = omega (arith, length-joined c.loop-word.pages, i.long, i.place, c.loop-word-test.true, c.requires.room) in
    record {
      place = omega (arith, i.place);
      written =
          ap (take (c.loop-word.at + 1)) c.put_word.ensures.words
          ∙ written_more row c.loop-word.at c.loop-word.word-index 0 (take c.args.start (joined c.args.pages.now)) c.args.words.now inside i.written c.loop-word-test.true;
      numbers = c.put_word.ensures.numbers ∙ i.numbers;
      long = omega (arith, c.put_word.auto.pages, i.long);
    }
