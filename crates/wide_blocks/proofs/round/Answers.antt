-- After j turns the words below j are there.
-- Assumes nothing.
use Rattle.std.proofs.Common.{ℕ, arith}
use Rattle.std.proofs.lemmas.List.{length-replicate}
use Rattle.forms.specs.Lists.{words_from}
use Rattle.forms.proofs.Lists.{replaced_none, replaced_more, replaced_all}
use Rattle.labyrinth.specs.Groups.{lookup_four}
use Rattle.wide_blocks.proofs.Iterations.{by_words, new_half}
use Rattle.wide_blocks.proofs.round.Goals as goal

pub loop-j-init : goal.loop-j-init
loop-j-init g c = replaced_none _ _

pub loop-j-preserved : goal.loop-j-preserved
loop-j-preserved g c =
    let v = c.loop-j in
    let a = c.args in
    let q = c.requires in
    replaced_more _ _ v.j (omega (arith, length-replicate {A = ℕ} g.row.N 0))
    (by_words a.t.now g.row.N q.0 q.1 (words_from g.row.N a.at a.ks.now) a.x.high a.x.low c.keyed-z.ensures q.3 v.j (omega arith) c.word.ensures) v.invariant

pub returns : goal.returns
returns g c =
    let a = c.args in
    new_half (lookup_four a.t.now) g.row.N (words_from g.row.N a.at a.ks.now) a.x.high a.x.low (replaced_all _ _ (omega arith) (length-replicate {A = ℕ} g.row.N 0) c.loop-j.invariant)
