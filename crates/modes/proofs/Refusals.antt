-- What the refusals of the runs, the tags and wrapped keys say in plain terms: which number when, in their order.
-- Assumes nothing.
use mathlib.Core.Path.{◌≡◌, refl, sym, ap, ◌∙◌}
use mathlib.Core.Bool.{Bool, true, false, ◌&&◌}
use mathlib.Core.Logic.{inl, ◌↔◌}
use Prim.Native.Nat.{ℕ, ◌+◌, ◌*◌, ◌%◌, ◌≤◌, ◌<◌}
use native.Mathlib.Omega.{arith}
use borrow.Author.Tests.{eq-eqb, ne_eqb, lt-leb}
use lib.Dec.{eqb, leb}
use Rattle.forms.specs.Refusals.{unless, Unless}
use Rattle.forms.proofs.Refusals.{unless_zero, unless_plain, unless_three, unless_four}
use Rattle.forms.proofs.Booleans.{eqb_iff, within_iff, and_iff}
use Rattle.labyrinth.specs.Refusals.{legal, Legal}
use Rattle.labyrinth.specs.Working.{Size}
use Rattle.labyrinth.proofs.Refusals.{legal_iff, legal_size_of}
use Rattle.modes.specs.Refusals.{cbc_lengths, ctr_lengths, cmac_lengths, cbc_refusal, ctr_refusal, cmac_refusal, sized, Sized, key_lengths, wrap_refusal, unwrap_refusal}

-- a CBC run: 1 unless n is 1, 2 or 4, then 6 unless the start block has 16n bytes, then 4 unless the source is whole blocks, then 5 unless the
-- destination is as long, else 0
pub cbc_number : (n start s d : ℕ) {r : ℕ} → r ≡ cbc_refusal n start s d
    → Unless (Legal n) (r ≡ 1) (Unless (start ≡ 16 * n) (r ≡ 6) (Unless (s % (16 * n) ≡ 0) (r ≡ 4) (Unless (d ≡ s) (r ≡ 5) (r ≡ 0))))
unfolding cbc_refusal cbc_lengths
cbc_number n start s d e =
    unless_plain (legal n) 1 _ e (legal_iff n) (λ e.
    unless_plain (eqb start (16 * n)) 6 _ e (eqb_iff start (16 * n)) (λ e.
    unless_plain (eqb (s % (16 * n)) 0) 4 _ e (eqb_iff (s % (16 * n)) 0) (λ e.
    unless_plain (eqb d s) 5 _ e (eqb_iff d s) (λ e. e))))

-- so it is taken exactly when all four hold
pub cbc_iff : (n start s d : ℕ) → (cbc_refusal n start s d ≡ 0) ↔ (Legal n × (start ≡ 16 * n) × (s % (16 * n) ≡ 0) × (d ≡ s))
cbc_iff n start s d = unless_four (cbc_number n start s d refl)

-- a CTR run: the same without the source's length
pub ctr_number : (n start s d : ℕ) {r : ℕ} → r ≡ ctr_refusal n start s d
    → Unless (Legal n) (r ≡ 1) (Unless (start ≡ 16 * n) (r ≡ 6) (Unless (d ≡ s) (r ≡ 5) (r ≡ 0)))
unfolding ctr_refusal ctr_lengths
ctr_number n start s d e =
    unless_plain (legal n) 1 _ e (legal_iff n) (λ e.
    unless_plain (eqb start (16 * n)) 6 _ e (eqb_iff start (16 * n)) (λ e.
    unless_plain (eqb d s) 5 _ e (eqb_iff d s) (λ e. e)))

pub ctr_iff : (n start s d : ℕ) → (ctr_refusal n start s d ≡ 0) ↔ (Legal n × (start ≡ 16 * n) × (d ≡ s))
ctr_iff n start s d = unless_three (ctr_number n start s d refl)

-- what a CBC run that is taken has, i being the start block's length
pub record Cbc_taken (n i s d : ℕ) : Type 0 where
  pub size : Size n
  pub start : i ≡ 16 * n
  pub whole : s % (16 * n) ≡ 0
  pub same : d ≡ s

pub cbc_taken : (n start s d : ℕ) {r : ℕ} → r ≡ cbc_refusal n start s d → r ≡ 0 → Cbc_taken n start s d
cbc_taken n start s d p e =
    let h = (cbc_iff n start s d).0 (sym p ∙ e) in
    record { size = legal_size_of n ((legal_iff n).1 h.0); start = h.1; whole = h.2; same = h.3 }

-- what a CTR run that is taken has
pub record Ctr_taken (n i s d : ℕ) : Type 0 where
  pub size : Size n
  pub start : i ≡ 16 * n
  pub same : d ≡ s

pub ctr_taken : (n start s d : ℕ) {r : ℕ} → r ≡ ctr_refusal n start s d → r ≡ 0 → Ctr_taken n start s d
ctr_taken n start s d p e =
    let h = (ctr_iff n start s d).0 (sym p ∙ e) in
    record { size = legal_size_of n ((legal_iff n).1 h.0); start = h.1; same = h.2 }

-- a tag, as the code tests it: 12 for n = 2 and 4 whatever its length, then 11 for a length that is none
module _ (n t : ℕ) where
  pub cmac_large : legal n ≡ true → (n ≡ 1 → ⊥) → 12 ≡ cmac_refusal n t
  unfolding cmac_refusal cmac_lengths
  cmac_large l h = rw (l, ne_eqb n 1 h)

  pub cmac_short : n ≡ 1 → t < 8 → 11 ≡ cmac_refusal n t
  unfolding cmac_refusal cmac_lengths
  cmac_short e h = rw ((legal_iff n).1 (inl e), eq-eqb n 1 e, lt-leb 8 t h)

  pub cmac_long : n ≡ 1 → 16 < t → 11 ≡ cmac_refusal n t
  unfolding cmac_refusal cmac_lengths
  cmac_long e h = rw ((legal_iff n).1 (inl e), eq-eqb n 1 e, lt-leb t 16 h) (without (leb 8 t))
    where
      without : (b : Bool) → 11 ≡ unless (b && false) 11 0
      without true = refl
      without false = refl

-- a tag: 1 unless n is 1, 2 or 4, then 12 unless it is 1, then 11 unless there are 8 to 16 bytes, else 0
pub cmac_number : (n t : ℕ) {r : ℕ} → r ≡ cmac_refusal n t
    → Unless (Legal n) (r ≡ 1) (Unless (n ≡ 1) (r ≡ 12) (Unless ((8 ≤ t) × (t ≤ 16)) (r ≡ 11) (r ≡ 0)))
unfolding cmac_refusal cmac_lengths
cmac_number n t e =
    unless_plain (legal n) 1 _ e (legal_iff n) (λ e.
    unless_plain (eqb n 1) 12 _ e (eqb_iff n 1) (λ e.
    unless_plain (leb 8 t && leb t 16) 11 _ e (within_iff 8 16 t) (λ e. e)))

-- a tag is made or verified exactly when n is 1 and it has 8 to 16 bytes
pub cmac_iff : (n t : ℕ) → (cmac_refusal n t ≡ 0) ↔ ((n ≡ 1) × (8 ≤ t) × (t ≤ 16))
cmac_iff n t =
    let all = unless_three (cmac_number n t refl) in
    (λ z. let h = all.0 z in (h.1, h.2.0, h.2.1), λ h. all.1 (inl h.0, h.0, (h.1, h.2)))

-- what a tag that is taken has
pub record Cmac_taken (n t : ℕ) : Type 0 where
  pub size : Size n
  pub one : n ≡ 1
  pub low : 8 ≤ t
  pub top : t ≤ 16

pub cmac_taken : (n t : ℕ) {r : ℕ} → r ≡ cmac_refusal n t → r ≡ 0 → Cmac_taken n t
cmac_taken n t p e = let h = (cmac_iff n t).0 (sym p ∙ e) in record { size = legal_size_of n ((legal_iff n).1 (inl h.0)); one = h.0; low = h.1; top = h.2 }

-- ---- keys that are wrapped and unwrapped

pub sized_iff : (low top k : ℕ) → (sized low top k ≡ true) ↔ Sized low top k
unfolding sized
sized_iff low top k =
    let h = and_iff (eqb (k % 8) 0) (leb low k && leb k top) (eqb_iff (k % 8) 0) (within_iff low top k) in
    (λ e. let a = h.0 e in (a.0, a.1.0, a.1.1), λ a. h.1 (a.0, (a.1, a.2)))

-- what a key that is taken has
pub record Key_taken (low top n source shorter longer : ℕ) : Type 0 where
  pub size : Size n
  pub one : n ≡ 1
  pub whole : source % 8 ≡ 0
  pub low_end : low ≤ source
  pub top_end : source ≤ top
  pub eight : longer ≡ shorter + 8

module _ (low top n source shorter longer further : ℕ) where
  keys_number : {last : Type 0} {r : ℕ} → r ≡ unless (legal n) 1 (key_lengths low top n source shorter longer further) → (r ≡ further → last)
      → Unless (Legal n) (r ≡ 1) (Unless (n ≡ 1) (r ≡ 12) (Unless (Sized low top source) (r ≡ 17) (Unless (longer ≡ shorter + 8) (r ≡ 5) last)))
  unfolding key_lengths
  keys_number e f =
      unless_plain (legal n) 1 _ e (legal_iff n) (λ e.
      unless_plain (eqb n 1) 12 _ e (eqb_iff n 1) (λ e.
      unless_plain (sized low top source) 17 _ e (sized_iff low top source) (λ e.
      unless_plain (eqb longer (shorter + 8)) 5 _ e (eqb_iff longer (shorter + 8)) f)))

  keys_taken : {r : ℕ} → r ≡ unless (legal n) 1 (key_lengths low top n source shorter longer further) → r ≡ 0
      → Key_taken low top n source shorter longer × (further ≡ 0)
  unfolding key_lengths
  keys_taken e z =
      let a = unless_zero (legal n) 0 _ (sym e ∙ z) in
      let b = unless_zero (eqb n 1) 11 _ a.1 in
      let c = unless_zero (sized low top source) 16 _ b.1 in
      let d = unless_zero (eqb longer (shorter + 8)) 4 _ c.1 in
      let h = (sized_iff low top source).0 c.0 in
      (record { size = legal_size_of n a.0; one = (eqb_iff n 1).0 b.0; whole = h.0; low_end = h.1; top_end = h.2; eight = (eqb_iff longer (shorter + 8)).0 d.0 }, d.1)

  -- as the code tests it: n and the source first, then the destination
  module _ {r : ℕ} (e : r ≡ unless (legal n) 1 (unless (eqb n 1) 12 (unless (sized low top source) 17 0))) where
    pub keys_refused : (r ≡ 0 → ⊥) → r ≡ unless (legal n) 1 (key_lengths low top n source shorter longer further)
    unfolding key_lengths
    keys_refused h = go (legal n) (eqb n 1) (sized low top source) e
      where
        go : (a b c : Bool) → r ≡ unless a 1 (unless b 12 (unless c 17 0)) → r ≡ unless a 1 (unless b 12 (unless c 17 (unless (eqb longer (shorter + 8)) 5 further)))
        go true true true e = absurd (h e)
        go true true false e = e
        go true false c e = e
        go false b c e = e

    module _ (z : r ≡ 0) where
      pub keys_sized : Sized low top source
      keys_sized =
          let a = unless_zero (legal n) 0 _ (sym e ∙ z) in
          let b = unless_zero (eqb n 1) 11 _ a.1 in
          (sized_iff low top source).0 (unless_zero (sized low top source) 16 0 b.1).0

      keys_left : unless (eqb longer (shorter + 8)) 5 further ≡ unless (legal n) 1 (key_lengths low top n source shorter longer further)
      unfolding key_lengths
      keys_left =
          let a = unless_zero (legal n) 0 _ (sym e ∙ z) in
          let b = unless_zero (eqb n 1) 11 _ a.1 in
          rw (a.0, b.0, (sized_iff low top source).1 keys_sized) refl

      pub keys_other : (longer ≡ shorter + 8 → ⊥) → 5 ≡ unless (legal n) 1 (key_lengths low top n source shorter longer further)
      keys_other h = ap (λ (b : Bool). unless b 5 further) (sym (ne_eqb longer (shorter + 8) h)) ∙ keys_left

      pub keys_fit : longer ≡ shorter + 8 → further ≡ unless (legal n) 1 (key_lengths low top n source shorter longer further)
      keys_fit h = ap (λ (b : Bool). unless b 5 further) (sym (eq-eqb longer (shorter + 8) h)) ∙ keys_left

-- wrapping: 1 unless n is 1, 2 or 4, then 12 unless it is 1, then 17 unless the source has 16 to 128 bytes in steps of 8, then 5 unless the destination
-- has eight more, else 0
pub wrap_number : (n s d : ℕ) {r : ℕ} → r ≡ wrap_refusal n s d
    → Unless (Legal n) (r ≡ 1) (Unless (n ≡ 1) (r ≡ 12) (Unless (Sized 16 128 s) (r ≡ 17) (Unless (d ≡ s + 8) (r ≡ 5) (r ≡ 0))))
unfolding wrap_refusal
wrap_number n s d e = keys_number 16 128 n s s d 0 e (λ e. e)

pub wrap_taken : (n s d : ℕ) {r : ℕ} → r ≡ wrap_refusal n s d → r ≡ 0 → Key_taken 16 128 n s s d
unfolding wrap_refusal
wrap_taken n s d e z = (keys_taken 16 128 n s s d 0 e z).0

-- unwrapping: the same for a source of 24 to 136 bytes and a destination that has eight less, then 18 unless the check value is right, else 0
pub unwrap_number : {holds : Type 0} (n s d : ℕ) (right : Bool) {r : ℕ} → r ≡ unwrap_refusal n s d right → ((right ≡ true) ↔ holds)
    → Unless (Legal n) (r ≡ 1) (Unless (n ≡ 1) (r ≡ 12) (Unless (Sized 24 136 s) (r ≡ 17) (Unless (s ≡ d + 8) (r ≡ 5) (Unless holds (r ≡ 18) (r ≡ 0)))))
unfolding unwrap_refusal
unwrap_number n s d right e h = keys_number 24 136 n s d s _ e (λ e. unless_plain right 18 0 e h (λ e. e))

pub unwrap_taken : (n s d : ℕ) (right : Bool) {r : ℕ} → r ≡ unwrap_refusal n s d right → r ≡ 0 → Key_taken 24 136 n s d s × (right ≡ true)
unfolding unwrap_refusal
unwrap_taken n s d right e z =
    let h = keys_taken 24 136 n s d s _ e z in
    (h.0, (unless_zero right 17 0 h.1).0)

-- what the check value is matters only where n is legal
pub unwrap_cong : (n s d : ℕ) (b c : Bool) → (Size n → b ≡ c) → unwrap_refusal n s d b ≡ unwrap_refusal n s d c
unfolding unwrap_refusal
unwrap_cong n s d b c h = go (legal n) (λ e. h (legal_size_of n e))
  where
    go : (a : Bool) → (a ≡ true → b ≡ c) → unless a 1 (key_lengths 24 136 n s d s (unless b 18 0)) ≡ unless a 1 (key_lengths 24 136 n s d s (unless c 18 0))
    go true h = ap (λ (x : Bool). key_lengths 24 136 n s d s (unless x 18 0)) (h refl)
    go false h = refl

-- a check value that is yet to be seen: a refusal is the operation's, and after none 18 is all that is left
module _ (n s d : ℕ) (right : Bool) {r : ℕ} (e : r ≡ unwrap_refusal n s d true) where
  pub unwrap_refused : (r ≡ 0 → ⊥) → r ≡ unwrap_refusal n s d right
  unfolding unwrap_refusal key_lengths
  unwrap_refused h = go (legal n) (eqb n 1) (sized 24 136 s) (eqb s (d + 8)) e
    where
      go : (a b c f : Bool) → r ≡ unless a 1 (unless b 12 (unless c 17 (unless f 5 0))) → r ≡ unless a 1 (unless b 12 (unless c 17 (unless f 5 (unless right 18 0))))
      go true true true true e = absurd (h e)
      go true true true false e = e
      go true true false f e = e
      go true false c f e = e
      go false b c f e = e

  pub unwrap_passed : r ≡ 0 → unless right 18 0 ≡ unwrap_refusal n s d right
  unfolding unwrap_refusal key_lengths
  unwrap_passed z = go (legal n) (eqb n 1) (sized 24 136 s) (eqb s (d + 8)) (sym e ∙ z)
    where
      go : (a b c f : Bool) → unless a 1 (unless b 12 (unless c 17 (unless f 5 0))) ≡ 0 → unless right 18 0 ≡ unless a 1 (unless b 12 (unless c 17 (unless f 5 (unless right 18 0))))
      go true true true true e = refl
      go true true true false e = let x : ⊥ = omega arith in absurd x
      go true true false f e = let x : ⊥ = omega arith in absurd x
      go true false c f e = let x : ⊥ = omega arith in absurd x
      go false b c f e = let x : ⊥ = omega arith in absurd x

-- ---- each says 1 for an illegal n itself

pub cbc_one : (n start s d : ℕ) → legal n ≡ false → cbc_refusal n start s d ≡ 1
unfolding cbc_refusal
cbc_one n start s d e = rw e

pub ctr_one : (n start s d : ℕ) → legal n ≡ false → ctr_refusal n start s d ≡ 1
unfolding ctr_refusal
ctr_one n start s d e = rw e

pub cmac_one : (n t : ℕ) → legal n ≡ false → cmac_refusal n t ≡ 1
unfolding cmac_refusal
cmac_one n t e = rw e

pub wrap_one : (n s d : ℕ) → legal n ≡ false → wrap_refusal n s d ≡ 1
unfolding wrap_refusal
wrap_one n s d e = rw e

pub unwrap_one : (n s d : ℕ) (right : Bool) → legal n ≡ false → unwrap_refusal n s d right ≡ 1
unfolding unwrap_refusal
unwrap_one n s d right e = rw e
