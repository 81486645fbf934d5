-- Each arm chains by its own forms; those that are made give the block map that is lent.
-- Assumes nothing.
use mathlib.Core.Path.{ap, ◌∙◌}
use mathlib.Core.List.{List}
use Prim.Native.Nat.{ℕ, ◌*◌, ◌/◌}
use lib.ListN.{length}
use Rattle.forms.specs.Lists.{when}
use Rattle.forms.specs.Mapped.{chain_blocks, chain_last}
use Rattle.eight_tables.proofs.Making.{eight_filled}
use Rattle.chains.proofs.Wide.{made_four, made_lent}
use Rattle.chains.proofs.linked.Goals as goal

pub by_wide_links-requires : goal.by_wide_links-requires
by_wide_links-requires c =
    let a = c.args in
    let eight = eight_filled a.t.now c.zeros-eight.result c.fill-arg-1.given c.zeros-eight.ensures c.fill.ensures.table in
    (c.requires.0, c.requires.1, c.requires.2, c.requires.3, made_four a.n a.t.now c.spaced-there.result c.spaced-back.result a.ks.now eight c.fill.ensures.words)

pub returns-then-pays : goal.returns-then-pays
returns-then-pays c =
    let a = c.args in
    let long = c.fill-arg-1.given in
    let eight = eight_filled a.t.now c.zeros-eight.result long c.zeros-eight.ensures c.fill.ensures.table in
    let same = made_lent a.n a.t.now a.s.now a.u.now a.ks.now eight long
    c.spaced-there.ensures.table c.spaced-there.ensures.bytes c.spaced-back.ensures.table c.spaced-back.ensures.bytes in record {
      blocks = c.by_wide_links.ensures.blocks
          ∙ ap (λ (f : List ℕ → List ℕ). when a.keep (chain_blocks f (16 * a.n) (length a.src.now / (16 * a.n)) a.c.now a.src.now) a.dst.now) same;
      last = c.by_wide_links.ensures.last ∙ ap (λ (f : List ℕ → List ℕ). chain_last f (16 * a.n) (length a.src.now / (16 * a.n)) a.c.now a.src.now) same;
    }
