-- Laws of a run that is opened stretch by stretch where it stands: a stretch and what stands behind it, and a turn of the loop.
-- Assumes nothing.
use mathlib.Core.Path.{◌≡◌, refl, sym, ap, ap₂, ◌∙◌}
use mathlib.Core.List.{List, [], ◌++◌}
use Prim.Native.Nat.{ℕ, zero, suc, ◌+◌, ◌-◌, ◌*◌, ◌/◌, ◌%◌, ◌≤◌, ◌<◌, min}
use native.Mathlib.Nat.{zero-mul, suc-mul, zero-div, sub-zero}
use native.Mathlib.Omega.{arith, min_cases}
use lib.ListN.{length, take, drop, length-drop, take-append-drop}
use lib.Seq.{take_all, take_at, drop-append-le, drop-drop}
use Rattle.forms.specs.Strings.{block}
use Rattle.forms.specs.Refusals.{outcome}
use Rattle.forms.proofs.Strings.{whole_blocks, whole_rest, block_within}
use Rattle.forms.proofs.Parts.{part_length, part_kept, part_turn, part_behind, all_filled}
use Rattle.labyrinth.specs.Working.{Size}
use Rattle.labyrinth.proofs.Sizes.{sizes, legal_size}
use Rattle.labyrinth.proofs.Refusals.{legal_iff}
use Rattle.modes.specs.Cbc.{cbc_open, open_blocks, before}
use Rattle.modes.specs.Refusals.{cbc_refusal}
use Rattle.modes.proofs.Cbc.{open_append}
use Rattle.modes.proofs.Refusals.{cbc_iff}

-- a run of the right lengths is opened
pub run_opened : (n : ℕ) (x old : List ℕ) {i s d r : ℕ} {out : List ℕ} → Size n → i ≡ 16 * n → s % (16 * n) ≡ 0 → d ≡ s
    → r ≡ cbc_refusal n i s d → out ≡ outcome r x old → out ≡ x
run_opened n x old {i} {s} {d} size p w q e o =
    o ∙ ap (λ (k : ℕ). outcome k x old) (e ∙ (cbc_iff n i s d).1 ((legal_iff n).0 (legal_size n size), p, w, q))

-- a stretch of whole blocks is whole blocks
pub stretch_whole : (n left : ℕ) → Size n → left % (16 * n) ≡ 0 → min 8192 left % (16 * n) ≡ 0
stretch_whole n left size w =
    min_cases 8192 left (min 8192 left % (16 * n) ≡ 0)
    (λ h e. ap (λ (k : ℕ). k % (16 * n)) e ∙ sizes (λ n. 8192 % (16 * n) ≡ 0) refl refl refl n size)
    (λ h e. ap (λ (k : ℕ). k % (16 * n)) e ∙ w)

-- the end of the first of two parts
pub end_of_front : (a b : List ℕ) (at : ℕ) → at ≤ length a → take (length a - at) (drop at (a ++ b)) ≡ drop at a
end_of_front a b at h = ap (take (length a - at)) (drop-append-le at a b h) ∙ take_at (drop at a) b (length a - at) (length-drop at a)

-- the last of whole blocks, of which there is one
last_block_lem : (z m : ℕ) (start a : List ℕ) → length a ≡ m * z → 0 < length a → before z start a m ≡ drop (length a - z) a
unfolding before block
last_block_lem z zero start a l h = let x : ⊥ = omega (arith, zero-mul z) in absurd x
last_block_lem z (suc j) start a l h =
    let e : j * z ≡ length a - z = omega (arith, suc-mul j z) in
    ap (λ (k : ℕ). take z (drop k a)) e ∙ take_all z (drop (length a - z) a) (omega (arith, length-drop (length a - z) a, suc-mul j z))

-- d is opened up to at, with the sealed block before it in the chain; what is left, opened, completes the whole
pub record Opened (u : List ℕ → List ℕ) (z : ℕ) (whole chain d : List ℕ) (k at : ℕ) : Type 0 where
  pub same : length d ≡ k
  pub within : at ≤ k
  pub left : (k - at) % z ≡ 0
  pub held : length chain ≡ z
  pub rest : take at d ++ cbc_open u z chain (drop at d) ≡ whole

module _ (u : List ℕ → List ℕ) (z : ℕ) (pos : 0 < z) where
  -- whole blocks and what stands behind them: opened after the start block, and after the last of them
  open_front : (start a b : List ℕ) → length a % z ≡ 0 → 0 < length a → cbc_open u z start (a ++ b) ≡ cbc_open u z start a ++ cbc_open u z (drop (length a - z) a) b
  open_front start a b w h =
      let l : length a ≡ length a / z * z = whole_blocks z (length a) w in
      open_append u z pos (length a / z) start a b l
      ∙ ap (λ (c : List ℕ). cbc_open u z start a ++ cbc_open u z c b) (last_block_lem z (length a / z) start a l h)

  open_nil : (c s : List ℕ) → length s ≡ 0 → cbc_open u z c s ≡ []
  unfolding cbc_open open_blocks
  open_nil c s e = ap (λ (k : ℕ). open_blocks u z k c s) (ap (λ (k : ℕ). k / z) e ∙ zero-div z)

  pub opened_first : (chain d : List ℕ) → length d % z ≡ 0 → length chain ≡ z → Opened u z (cbc_open u z chain d) chain d (length d) 0
  opened_first chain d w e = record { same = refl; within = omega arith; left = ap (λ (k : ℕ). k % z) (sub-zero (length d)) ∙ w; held = e; rest = refl }

  pub opened_last : (whole chain d : List ℕ) (k at : ℕ) → Opened u z whole chain d k at → k ≤ at → d ≡ whole
  opened_last whole chain d k at o h =
      all_filled d at (omega (arith, o.same)) (open_nil chain (drop at d) (omega (arith, length-drop at d, o.same))) o.rest

  -- a stretch more
  module _ (whole chain d ys : List ℕ) (k at end : ℕ) (o : Opened u z whole chain d k at) (h : at < end) (j : end ≤ k) (w : (end - at) % z ≡ 0) where
    abbrev part : List ℕ
    part = take (end - at) (drop at d)

    long : length part ≡ end - at
    long = part_length d at end (omega arith) (omega (arith, o.same))

    pub opened_next : {chain' : List ℕ} → ys ≡ cbc_open u z chain part → length ys ≡ length part → chain' ≡ drop (length part - z) part
        → Opened u z whole chain' (take at d ++ (ys ++ drop (end - at) (drop at d))) k end
    opened_next {chain'} p l q =
        let within : end ≤ length d = omega (arith, o.same) in
        let size : length ys ≡ end - at = l ∙ long in
        let rest : List ℕ = drop (end - at) (drop at d) in
        let on : drop end d ≡ rest = (let e : at + (end - at) ≡ end = omega arith in sym (drop-drop (end - at) at d ∙ ap (λ (i : ℕ). drop i d) e)) in
        record {
          same = part_kept d ys at end (omega arith) within size ∙ o.same;
          within = j;
          left = (let e : k - at - (end - at) ≡ k - end = omega arith in sym (ap (λ (i : ℕ). i % z) e) ∙ whole_rest z (end - at) (k - at) (omega arith) w o.left);
          held =
              ap length q ∙ length-drop (length part - z) part
              ∙ omega (arith, long, block_within z (end - at) w (omega arith));
          rest =
              part_turn d ys at end (omega arith) within size _
              ∙ ap (λ (x : List ℕ). take at d ++ (ys ++ cbc_open u z chain' x)) (part_behind d ys at end (omega arith) within size ∙ on)
              ∙ ap₂ (λ (x y : List ℕ). take at d ++ (x ++ cbc_open u z y rest)) p q
              ∙ ap (λ (x : List ℕ). take at d ++ x)
              (sym (open_front chain part rest (ap (λ (i : ℕ). i % z) long ∙ w) (omega (arith, long))) ∙ ap (cbc_open u z chain) (take-append-drop (end - at) (drop at d)))
              ∙ o.rest;
        }
