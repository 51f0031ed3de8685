use Rattle.std.proofs.Common.{◌≡◌, ◌+◌, ◌++◌, length, take}
use Rattle.kam_store.specs.Joined.{joined, numbers}
use Rattle.kam_store.proofs.paging.write.Given as goal

-- the words so far are written
abbrev pub invariant-loop-word : goal.invariant-loop-word
invariant-loop-word l = record {
  place : l.at ≡ l.start + l.word-index;
  written : take l.at (joined l.pages) ≡ take l.start (joined l.initial.pages) ++ take l.word-index l.words;
  numbers : numbers l.pages ≡ numbers l.initial.pages;
  long : length l.pages ≡ length l.initial.pages;
}
