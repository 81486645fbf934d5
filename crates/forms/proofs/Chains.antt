-- A loop over whole blocks that are chained, each mapped XOR what the one before it became: what it keeps, and a turn of it.
-- Assumes nothing.
use mathlib.Core.Path.{◌≡◌, refl, sym, ap, ap₂, ◌∙◌}
use mathlib.Core.Bool.{Bool, true, false}
use mathlib.Core.List.{List, ◌++◌, append-nil}
use Prim.Native.Nat.{ℕ, zero, suc, ◌+◌, ◌-◌, ◌*◌, ◌/◌, ◌%◌, ◌≤◌, ◌<◌}
use native.Mathlib.Nat.{zero-mul, suc-mul}
use native.Mathlib.Omega.{arith}
use lib.ListN.{length, take, drop, length-append}
use lib.Seq.{take_all, drop-drop}
use Rattle.forms.specs.Lists.{when}
use Rattle.forms.specs.Strings.{xor_bytes}
use Rattle.forms.specs.Mapped.{chain_blocks, chain_last}
use Rattle.forms.proofs.Strings.{whole_blocks}
use Rattle.forms.proofs.Parts.{block_left, none_left, part_kept, part_turn}

-- ---- lengths

module _ (m : List ℕ → List ℕ) (z : ℕ) (gives : (b : List ℕ) → length (m b) ≡ z) where
  pub length_chain_blocks : (k : ℕ) (c xs : List ℕ) → length (chain_blocks m z k c xs) ≡ k * z
  unfolding chain_blocks
  length_chain_blocks zero c xs = sym (zero-mul z)
  length_chain_blocks (suc k) c xs =
      let d : List ℕ = m (xor_bytes (take z xs) c) in
      length-append d (chain_blocks m z k d (drop z xs)) ∙ omega (arith, gives (xor_bytes (take z xs) c), length_chain_blocks k d (drop z xs), suc-mul k z)

  pub length_chain_last : (k : ℕ) (c xs : List ℕ) → length c ≡ z → length (chain_last m z k c xs) ≡ z
  unfolding chain_last
  length_chain_last zero c xs e = e
  length_chain_last (suc k) c xs e = length_chain_last k (m (xor_bytes (take z xs) c)) (drop z xs) (gives (xor_bytes (take z xs) c))

-- ---- the loop

-- at a place of src, whole blocks after it: c is the block so far and, with keep, those before the place are written to dst; else dst is as it was before
pub record Linked (m : List ℕ → List ℕ) (z : ℕ) (keep : Bool) (c₀ src before c dst : List ℕ) (at : ℕ) : Type 0 where
  pub left : ℕ
  pub blocks : length src ≡ at + left * z
  pub fits : length c ≡ z
  pub same : length dst ≡ length before
  pub made : when keep (take at dst ++ chain_blocks m z left c (drop at src)) dst ≡ when keep (chain_blocks m z (length src / z) c₀ src) before
  pub last : chain_last m z left c (drop at src) ≡ chain_last m z (length src / z) c₀ src

module _ (m : List ℕ → List ℕ) (z : ℕ) (pos : 0 < z) (keep : Bool) (c₀ src before : List ℕ) (room : keep ≡ true → length before ≡ length src) where
  pub linked_first : length src % z ≡ 0 → length c₀ ≡ z → Linked m z keep c₀ src before c₀ before 0
  linked_first w e =
      record { left = length src / z; blocks = omega (arith, whole_blocks z (length src) w); fits = e; same = refl; made = refl; last = refl }

  -- a block is left where the source goes on
  pub linked_block : {c dst : List ℕ} {at : ℕ} → Linked m z keep c₀ src before c dst at → at < length src → at + z ≤ length src
  linked_block {c} {dst} {at} k h = block_left k.left z (length src) at k.blocks h

  -- where it ends
  module _ {c dst : List ℕ} {at : ℕ} (k : Linked m z keep c₀ src before c dst at) (h : length src ≤ at) where
    none : k.left ≡ 0
    none = none_left k.left z (length src) at pos k.blocks h

    pub linked_blocks : dst ≡ when keep (chain_blocks m z (length src / z) c₀ src) before
    unfolding chain_blocks
    linked_blocks = go keep room k.made
      where
        go : (b : Bool) → (b ≡ true → length before ≡ length src)
            → when b (take at dst ++ chain_blocks m z k.left c (drop at src)) dst ≡ when b (chain_blocks m z (length src / z) c₀ src) before
            → dst ≡ when b (chain_blocks m z (length src / z) c₀ src) before
        go false r e = e
        go true r e =
            sym (ap (λ (l : ℕ). take at dst ++ chain_blocks m z l c (drop at src)) none ∙ append-nil (take at dst) ∙ take_all at dst (omega (arith, r refl, k.same))) ∙ e

    pub linked_last : c ≡ chain_last m z (length src / z) c₀ src
    unfolding chain_last
    linked_last = sym (ap (λ (l : ℕ). chain_last m z l c (drop at src)) none) ∙ k.last

  -- a turn: c becomes the next block and, with keep, is written
  pub linked_next : {c dst : List ℕ} {at : ℕ} (e : ℕ) {c' dst' : List ℕ} → e ≡ at + z → Linked m z keep c₀ src before c dst at → at < length src
      → length c' ≡ length c → c' ≡ m (xor_bytes (take (e - at) (drop at src)) c) → dst' ≡ when keep (take at dst ++ (c' ++ drop (e - at) (drop at dst))) dst
      → Linked m z keep c₀ src before c' dst' e
  unfolding chain_blocks chain_last
  linked_next {c} {dst} {at} e {c'} {dst'} p k h l n w = go k.left k.blocks k.made k.last
    where
      ez : e - at ≡ z
      ez = omega arith

      within : at + z ≤ length src
      within = linked_block k h

      lc : length c' ≡ e - at
      lc = l ∙ k.fits ∙ sym ez

      next : c' ≡ m (xor_bytes (take z (drop at src)) c)
      next = n ∙ ap (λ (i : ℕ). m (xor_bytes (take i (drop at src)) c)) ez

      on : drop z (drop at src) ≡ drop e src
      on = drop-drop z at src ∙ ap (λ (i : ℕ). drop i src) (sym p)

      kept : (b : Bool) → (b ≡ true → length before ≡ length src) → length (when b (take at dst ++ (c' ++ drop (e - at) (drop at dst))) dst) ≡ length dst
      kept false r = refl
      kept true r = part_kept dst c' at e (omega arith) (omega (arith, r refl, k.same, within)) lc

      written : (j : ℕ) (b : Bool) → (b ≡ true → length before ≡ length src)
          → when b (take e (when b (take at dst ++ (c' ++ drop (e - at) (drop at dst))) dst) ++ chain_blocks m z j c' (drop e src)) (when b (take at dst ++ (c' ++ drop (e - at) (drop at dst))) dst)
          ≡ when b (take at dst ++ chain_blocks m z (suc j) c (drop at src)) dst
      written j false r = refl
      written j true r =
          part_turn dst c' at e (omega arith) (omega (arith, r refl, k.same, within)) lc (chain_blocks m z j c' (drop e src))
          ∙ ap₂ (λ (x y : List ℕ). take at dst ++ (x ++ chain_blocks m z j x y)) next (sym on)

      go : (j : ℕ) → length src ≡ at + j * z
          → when keep (take at dst ++ chain_blocks m z j c (drop at src)) dst ≡ when keep (chain_blocks m z (length src / z) c₀ src) before
          → chain_last m z j c (drop at src) ≡ chain_last m z (length src / z) c₀ src → Linked m z keep c₀ src before c' dst' e
      go zero b d f = let x : ⊥ = omega (arith, zero-mul z) in absurd x
      go (suc j) b d f = record {
        left = j;
        blocks = omega (arith, suc-mul j z);
        fits = l ∙ k.fits;
        same = ap length w ∙ kept keep room ∙ k.same;
        made = ap (λ (x : List ℕ). when keep (take e x ++ chain_blocks m z j c' (drop e src)) x) w ∙ written j keep room ∙ d;
        last = ap₂ (λ (x y : List ℕ). chain_last m z j x y) next (sym on) ∙ f;
      }
