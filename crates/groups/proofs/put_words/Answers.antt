-- The first i words are put, and the others still stand.
-- Assumes nothing.
use mathlib.Core.Path.{◌≡◌, refl, ap, ◌∙◌}
use Prim.Native.Nat.{ℕ}
use native.Mathlib.Omega.{arith}
use lib.Bits.{bit_xor}
use lib.ListN.{get_or}
use Rattle.groups.proofs.Words.{put_more, put_all}
use Rattle.groups.proofs.put_words.Goals as goal

-- src/lib.rt:48:5
pub loop-i-init : goal.loop-i-init
loop-i-init c = (refl, refl)

-- src/lib.rt:48:5
pub loop-i-preserved : goal.loop-i-preserved
loop-i-preserved c =
    let v = c.loop-i in
    let a = c.args in (
      c.store_word.auto.d ∙ v.invariant.0,
      c.store_word.ensures ∙ put_more a.x a.mask.now a.dst.now (λ j. omega (arith, c.shared_slice_known-1.given j)) (omega arith) (omega arith) v.i (omega arith) (omega (arith, v.invariant.0)) v.invariant.1
          (ap (λ (y : ℕ). bit_xor (get_or a.x v.i 0) y) c.load_word.ensures),
    )

-- src/lib.rt:43:1
pub returns : goal.returns
returns c =
    let v = c.loop-i in
    let a = c.args in
    let e : v.i ≡ 8 = omega arith in
    put_all a.x a.mask.now a.dst.now (λ j. omega (arith, c.shared_slice_known-1.given j)) (omega arith) (omega arith) e v.invariant.1
