-- Each way out is one of the definition's.
-- Assumes nothing.
use mathlib.Core.Path.{◌≡◌, sym, ap₂, ◌∙◌}
use mathlib.Core.Bool.{true}
use Prim.Native.Nat.{ℕ}
use Rattle.pages.specs.Pages.{headed}
use Rattle.catalogue.proofs.Catalogues.{headed_long, entry_unheaded, entry_unended, entry_record}
use Rattle.catalogue.proofs.catalogue.Goals as goal
use Rattle.catalogue.proofs.catalogue.Goals.{Else-not-heads}

pub returns-then-not-heads : goal.returns-then-not-heads
returns-then-not-heads c = let a = c.args in c.refused.ensures ∙ entry_unheaded a.bytes.now (sym c.heads.ensures ∙ c.if-not-heads.true)

there : (c : Else-not-heads) → headed c.args.bytes.now ≡ true
there c = sym c.heads.ensures ∙ c.if-not-heads.false

pub count_blocks-count-requires : goal.count_blocks-count-requires
count_blocks-count-requires c = headed_long c.args.bytes.now (there c)

pub returns-then-not-ends : goal.returns-then-not-ends
returns-then-not-ends c =
    let a = c.args in
    c.refused-then-not-ends.ensures ∙ entry_unended a.bytes.now c.count_blocks-count.ensures.count (sym c.ends.ensures ∙ c.if-not-ends.true)

pub returns : goal.returns
returns c =
    let a = c.args in
    ap₂ (λ (x y : ℕ). record { number = 0; page = x; day = y; blocks = c.count_blocks-count.result }) c.four_byte_number.ensures c.four_byte_number-2.ensures
    ∙ entry_record a.bytes.now c.count_blocks-count.ensures.count (there (goal.at.returns c).Else-not-heads) (sym c.ends.ensures ∙ c.if-not-ends.false)
