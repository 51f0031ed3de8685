use Rattle.std.proofs.Common.{◌≡◌, ℕ, ◌+◌, ◌<◌, ◌≤◌, List, [], ◌∷◌, ◌++◌, length, take, get_or, string_bytes, ap, sym, subst, ◌∙◌, add-one}
use Rattle.std.proofs.lemmas.List.{take_all}
use Rattle.std.proofs.Math.Seq.{take-suc}
use Rattle.db_sqlite.proofs.Reading.{Reads, reads-on, bytes-on, read-whole}
use Rattle.db_sqlite.proofs.names.file_name.Goals as goal

upto : (xs ys : List ℕ) (i : ℕ) → ys ≡ xs → i < length ys → take i xs ++ get_or ys i 0 ∷ [] ≡ take (i + 1) xs
upto xs ys i e h = ap (λ t. take i xs ++ get_or t i 0 ∷ []) e ∙ sym (ap (λ j. take j xs) (add-one i) ∙ take-suc xs i 0 (subst (λ t. i < length t) e h))

pub loop-b-preserved : goal.loop-b-preserved
loop-b-preserved c =
    let table = c.args.table.now in
    let i = c.loop-b.b-index in
    let old = string_bytes c.loop-b.name in
    let new = string_bytes c.push_written.new.name in
    let b = get_or c.as_bytes-table.result.now i 0 in
    let w = c.in_ok-push_written.ensures in
    record {
      reads = subst (λ done. Reads new done) (upto table c.as_bytes-table.result.now i c.as_bytes-table.ensures c.loop-b-test.true) (reads-on b old new (take i table) w c.loop-b.invariant.reads);
      bytes = bytes-on b old new w c.loop-b.invariant.bytes;
    }

pub returns-clause-reads : goal.returns-clause-reads
returns-clause-reads c =
    read-whole (string_bytes c.loop-b.name) (take c.loop-b.b-index c.args.table.now) c.loop-b.invariant.reads
    ∙ take_all c.loop-b.b-index c.args.table.now (subst (λ t. length t ≤ c.loop-b.b-index) c.as_bytes-table.ensures c.loop-b-test.false)
