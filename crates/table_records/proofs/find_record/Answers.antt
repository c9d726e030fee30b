-- `table_records::find_record` meets its contract: in the loop no record from c on is the one searched, and the chain goes on at c. Assumes nothing.
use Rattle.std.proofs.Common.{arith, ◌≡◌, ap}
use Rattle.table_records.proofs.Searching.{search_start, search_next, search_less}
use Rattle.settings.proofs.Answers.{sure_not}
use Rattle.table_words.specs.Words.{listed}
use mathlib.Core.Path.{◌∙◌}
use Rattle.promises.specs.Words.{bucket, hash_of}
use Rattle.table_records.proofs.find_record.Goals as goal

pub loop-c-init : goal.loop-c-init
loop-c-init c =
    let b : c.bucket_word-c.result ≡ bucket c.args.t.now (hash_of c.args.k (listed c.args.list)) =
    c.bucket_word-c.ensures ∙ ap (bucket c.args.t.now) c.hash_of.ensures.0 in
    rw b (search_start c.args.t.now c.args.k c.args.list c.requires.0)

pub loop-c-smaller : goal.loop-c-smaller
loop-c-smaller c =
    let l = c.loop-c in
    omega (arith, c.record_word-c.ensures, search_less c.args.t.now c.args.k c.args.list c.requires.0 l.c c.loop-c-test.true l.invariant)

pub loop-c-preserved : goal.loop-c-preserved
loop-c-preserved c =
    let l = c.loop-c in
    rw c.record_word-c.ensures (search_next c.args.t.now c.args.k c.args.list c.requires.0 l.c c.loop-c-test.true l.invariant
    (sure_not c.if-record_is.false c.record_is.ensures))
