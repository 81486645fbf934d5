-- The steps in place: R_2 to R_n stay where they are, and the place goes round. At a place the string that the standard has is A, the semiblocks
-- from there on, and then those before it. What a round keeps, a turn of it, and six rounds.
-- Assumes nothing.
use mathlib.Core.Path.{◌≡◌, refl, sym, ap, ap₂, ◌∙◌}
use mathlib.Core.List.{List, ◌++◌, append-nil, append_assoc}
use Prim.Native.Nat.{ℕ, zero, suc, ◌+◌, ◌-◌, ◌*◌, ◌/◌, ◌%◌, ◌≤◌, ◌<◌}
use native.Mathlib.Nat.{add-mul, zero-mul, mul-le-mul_right}
use native.Mathlib.Omega.{arith}
use lib.ListN.{length, take, drop, length-append, take-append-drop, drop_of_length-le}
use lib.Seq.{take_at, drop_at, take_all, take-add, drop-drop, length-take-le}
use Rattle.forms.specs.Strings.{xor_bytes, string}
use Rattle.modes.specs.KeyWrap.{steps, wrap_step, wrap_steps, W, unwrap_step, unwrap_steps, W⁻¹}
use Rattle.forms.proofs.Parts.{part_length, part_kept}
use Rattle.modes.proofs.KeyWrap.{wrap_step_parts, unwrap_step_parts}
use Rattle.key_wrap_steps.specs.Steps.{wrap_more}

-- m steps more, after t
pub wrap_more_steps : (e : List ℕ → List ℕ) (t m : ℕ) (x : List ℕ) → wrap_more e t m (wrap_steps e t x) ≡ wrap_steps e (t + m) x
unfolding wrap_more wrap_steps
wrap_more_steps e t zero x = let p : t + 0 ≡ t = omega arith in ap (λ (k : ℕ). wrap_steps e k x) (sym p)
wrap_more_steps e t (suc m) x =
    let p : t + suc m ≡ suc (t + m) = omega arith in
    ap₂ (wrap_step e) p (wrap_more_steps e t m x) ∙ ap (λ (k : ℕ). wrap_steps e k x) (sym p)

-- ---- a part that comes back written: what stands before it and behind it

module _ (d ys : List ℕ) (at end : ℕ) (h : at ≤ end) (k : end ≤ length d) (l : length ys ≡ end - at) where
  after : List ℕ
  after = take at d ++ (ys ++ drop (end - at) (drop at d))

  before_length : length (take at d) ≡ at
  before_length = length-take-le at d (omega arith)

  upto_length : length (take at d ++ ys) ≡ end
  upto_length = length-append (take at d) ys ∙ omega (arith, before_length)

  behind : drop (end - at) (drop at d) ≡ drop end d
  behind = let p : at + (end - at) ≡ end = omega arith in drop-drop (end - at) at d ∙ ap (λ (i : ℕ). drop i d) p

  take_upto : take end after ≡ take at d ++ ys
  unfolding after
  take_upto = ap (take end) (sym (append_assoc (take at d) ys (drop (end - at) (drop at d)))) ∙ take_at (take at d ++ ys) (drop (end - at) (drop at d)) end upto_length

  drop_upto : drop end after ≡ drop end d
  unfolding after
  drop_upto = ap (drop end) (sym (append_assoc (take at d) ys (drop (end - at) (drop at d)))) ∙ drop_at (take at d ++ ys) (drop (end - at) (drop at d)) end upto_length ∙ behind

  take_before : take at after ≡ take at d
  unfolding after
  take_before = take_at (take at d) (ys ++ drop (end - at) (drop at d)) at before_length

  drop_before : drop at after ≡ ys ++ drop end d
  unfolding after
  drop_before = drop_at (take at d) (ys ++ drop (end - at) (drop at d)) at before_length ∙ ap (λ (x : List ℕ). ys ++ x) behind

  -- and as it was: what stood there, and the rest
  drop_there : drop at d ≡ take (end - at) (drop at d) ++ drop end d
  drop_there = sym (take-append-drop (end - at) (drop at d)) ∙ ap (λ (x : List ℕ). take (end - at) (drop at d) ++ x) behind

  take_there : take end d ≡ take at d ++ take (end - at) (drop at d)
  take_there = let p : end ≡ at + (end - at) = omega arith in ap (λ (i : ℕ). take i d) p ∙ take-add at (end - at) d

  -- a step of wrapping, at the place
  pub wrap_turn : (e : List ℕ → List ℕ) (t : ℕ) (a : List ℕ) {a' : List ℕ} → length a ≡ 8 → end ≡ at + 8
      → a' ≡ xor_bytes (take 8 (e (a ++ take (end - at) (drop at d)))) (string 8 t) → ys ≡ drop 8 (e (a ++ take (end - at) (drop at d)))
      → a' ++ (drop end (take at d ++ (ys ++ drop (end - at) (drop at d))) ++ take end (take at d ++ (ys ++ drop (end - at) (drop at d)))) ≡ wrap_step e t (a ++ (drop at d ++ take at d))
  unfolding after
  wrap_turn e t a {a'} la p q y =
      let r : List ℕ = take (end - at) (drop at d) in
      let rest : List ℕ = drop end d ++ take at d in
      let lb : length (a ++ r) ≡ 16 = length-append a r ∙ omega (arith, part_length d at end h k) in
      ap₂ (λ (x z : List ℕ). a' ++ (x ++ z)) drop_upto take_upto
      ∙ ap₂ (λ (x z : List ℕ). x ++ z) q (sym (append_assoc (drop end d) (take at d) ys) ∙ ap (λ (z : List ℕ). rest ++ z) y)
      ∙ sym (wrap_step_parts e t (a ++ r) rest lb)
      ∙ ap (wrap_step e t) (append_assoc a r rest ∙ ap (λ (x : List ℕ). a ++ x) (sym (append_assoc r (drop end d) (take at d)) ∙ ap (λ (x : List ℕ). x ++ take at d) (sym drop_there)))

  -- a step of unwrapping, up to the place
  pub unwrap_turn : (u : List ℕ → List ℕ) (t : ℕ) (a : List ℕ) {a' : List ℕ} → length a ≡ 8 → end ≡ at + 8
      → a' ≡ take 8 (u (xor_bytes a (string 8 t) ++ take (end - at) (drop at d))) → ys ≡ drop 8 (u (xor_bytes a (string 8 t) ++ take (end - at) (drop at d)))
      → a' ++ (drop at (take at d ++ (ys ++ drop (end - at) (drop at d))) ++ take at (take at d ++ (ys ++ drop (end - at) (drop at d)))) ≡ unwrap_step u t (a ++ (drop end d ++ take end d))
  unfolding after
  unwrap_turn u t a {a'} la p q y =
      let r : List ℕ = take (end - at) (drop at d) in
      let rest : List ℕ = drop end d ++ take at d in
      let b : List ℕ = u (xor_bytes a (string 8 t) ++ r) in
      let lr : length r ≡ 8 = part_length d at end h k ∙ omega arith in
      ap₂ (λ (x z : List ℕ). a' ++ (x ++ z)) drop_before take_before
      ∙ ap₂ (λ (x z : List ℕ). x ++ z) q (append_assoc ys (drop end d) (take at d) ∙ ap (λ (z : List ℕ). z ++ rest) y)
      ∙ sym (append_assoc (take 8 b) (drop 8 b) rest)
      ∙ ap (λ (x : List ℕ). x ++ rest) (take-append-drop 8 b)
      ∙ sym (unwrap_step_parts u t a rest r la lr)
      ∙ ap (λ (x : List ℕ). unwrap_step u t (a ++ x)) (append_assoc (drop end d) (take at d) r ∙ ap (λ (x : List ℕ). drop end d ++ x) (sym take_there))

-- ---- a round of wrapping

-- at a place: so many steps are done, the last of which has that number
pub record Wrapping (e : List ℕ → List ℕ) (x : List ℕ) (done size : ℕ) (a r : List ℕ) (number at : ℕ) : Type 0 where
  pub fits : length a ≡ 8
  pub same : length r ≡ size
  pub whole : at % 8 ≡ 0
  pub within : at ≤ size
  pub count : number ≡ done + at / 8
  pub made : a ++ (drop at r ++ take at r) ≡ wrap_more e done (at / 8) x

module _ (e : List ℕ → List ℕ) (done : ℕ) where
  pub wrap_first : (a r : List ℕ) → length a ≡ 8 → Wrapping e (a ++ r) done (length r) a r done 0
  unfolding wrap_more
  wrap_first a r l = record { fits = l; same = refl; whole = refl; within = omega arith; count = omega arith; made = ap (λ (x : List ℕ). a ++ x) (append-nil r) }

  module _ (x : List ℕ) (size : ℕ) (w : size % 8 ≡ 0) where
    pub wrap_room : {a r : List ℕ} {number at : ℕ} → Wrapping e x done size a r number at → at < size → at + 8 ≤ size
    wrap_room v h = omega (arith, v.whole)

    pub wrap_next : (a r : List ℕ) (number at : ℕ) {a' ys : List ℕ} → Wrapping e x done size a r number at → at < size
        → length a' ≡ length a → length ys ≡ length (take (at + 8 - at) (drop at r))
        → a' ≡ xor_bytes (take 8 (e (a ++ take (at + 8 - at) (drop at r)))) (string 8 (number + 1)) → ys ≡ drop 8 (e (a ++ take (at + 8 - at) (drop at r)))
        → Wrapping e x done size a' (take at r ++ (ys ++ drop (at + 8 - at) (drop at r))) (number + 1) (at + 8)
    unfolding wrap_more
    wrap_next a r number at {a'} {ys} v h l m p q =
        let room : at + 8 ≤ length r = omega (arith, wrap_room v h, v.same) in
        let ly : length ys ≡ at + 8 - at = m ∙ part_length r at (at + 8) (omega arith) room in
        let n : number + 1 ≡ done + suc (at / 8) = omega (arith, v.count) in
        let j : suc (at / 8) ≡ (at + 8) / 8 = omega arith in
        record {
          fits = l ∙ v.fits;
          same = part_kept r ys at (at + 8) (omega arith) room ly ∙ v.same;
          whole = omega (arith, v.whole);
          within = omega (arith, wrap_room v h);
          count = omega (arith, v.count);
          made =
              wrap_turn r ys at (at + 8) (omega arith) room ly e (number + 1) a v.fits refl p q
              ∙ ap₂ (wrap_step e) n v.made
              ∙ ap (λ (k : ℕ). wrap_more e done k x) j;
        }

    pub wrap_last : (a r : List ℕ) (number at : ℕ) → Wrapping e x done size a r number at → size ≤ at → a ++ r ≡ wrap_more e done (size / 8) x
    wrap_last a r number at v h =
        let all : at ≡ size = omega (arith, v.within) in
        sym (ap₂ (λ (y z : List ℕ). a ++ (y ++ z)) (drop_of_length-le r {i = at} (omega (arith, v.same))) (take_all at r (omega (arith, v.same))))
        ∙ v.made ∙ ap (λ (k : ℕ). wrap_more e done (k / 8) x) all

-- ---- a round of unwrapping

-- up to a place: the step to come has that number, and what is left makes the whole
pub record Unwrapping (u : List ℕ → List ℕ) (whole : List ℕ) (left size : ℕ) (a r : List ℕ) (number end : ℕ) : Type 0 where
  pub fits : length a ≡ 8
  pub same : length r ≡ size
  pub blocks : end % 8 ≡ 0
  pub within : end ≤ size
  pub count : number + size / 8 ≡ left + end / 8
  pub made : unwrap_steps u number (a ++ (drop end r ++ take end r)) ≡ whole

module _ (u : List ℕ → List ℕ) (left : ℕ) where
  pub unwrap_first : (a r : List ℕ) → length a ≡ 8 → length r % 8 ≡ 0 → Unwrapping u (unwrap_steps u left (a ++ r)) left (length r) a r left (length r)
  unwrap_first a r l w = record {
    fits = l;
    same = refl;
    blocks = w;
    within = omega arith;
    count = refl;
    made = ap₂ (λ (y z : List ℕ). unwrap_steps u left (a ++ (y ++ z))) (drop_of_length-le r {i = length r} (omega arith)) (take_all (length r) r (omega arith));
  }

  module _ (whole : List ℕ) (size : ℕ) where
    pub unwrap_room : {a r : List ℕ} {number end : ℕ} → Unwrapping u whole left size a r number end → 0 < end → 8 ≤ end
    unwrap_room v h = omega (arith, v.blocks)

    pub unwrap_count : {a r : List ℕ} {number end : ℕ} → Unwrapping u whole left size a r number end → size / 8 ≤ left → 0 < end → 1 ≤ number
    unwrap_count v w h = omega (arith, v.count, v.blocks)

    pub unwrap_next : (a r : List ℕ) (number end : ℕ) {a' ys : List ℕ} → Unwrapping u whole left size a r number end → size / 8 ≤ left → 0 < end
        → length a' ≡ length a → length ys ≡ length (take (end - (end - 8)) (drop (end - 8) r))
        → a' ≡ take 8 (u (xor_bytes a (string 8 number) ++ take (end - (end - 8)) (drop (end - 8) r)))
        → ys ≡ drop 8 (u (xor_bytes a (string 8 number) ++ take (end - (end - 8)) (drop (end - 8) r)))
        → Unwrapping u whole left size a' (take (end - 8) r ++ (ys ++ drop (end - (end - 8)) (drop (end - 8) r))) (number - 1) (end - 8)
    unfolding unwrap_steps
    unwrap_next a r number end {a'} {ys} v w h l m p q =
        let at : ℕ = end - 8 in
        let e8 : 8 ≤ end = unwrap_room v h in
        let n1 : 1 ≤ number = unwrap_count v w h in
        let room : end ≤ length r = omega (arith, v.within, v.same) in
        let ly : length ys ≡ end - at = m ∙ part_length r at end (omega arith) room in
        let n : number ≡ suc (number - 1) = omega arith in
        record {
          fits = l ∙ v.fits;
          same = part_kept r ys at end (omega arith) room ly ∙ v.same;
          blocks = omega (arith, v.blocks);
          within = omega (arith, v.within);
          count = omega (arith, v.count, v.blocks);
          made =
              ap (unwrap_steps u (number - 1)) (unwrap_turn r ys at end (omega arith) room ly u number a v.fits (omega arith) p q
              ∙ ap (λ (k : ℕ). unwrap_step u k (a ++ (drop end r ++ take end r))) n)
              ∙ ap (λ (k : ℕ). unwrap_steps u k (a ++ (drop end r ++ take end r))) (sym n)
              ∙ v.made;
        }

    pub unwrap_last : (a r : List ℕ) (number end : ℕ) → Unwrapping u whole left size a r number end → end ≤ 0 → unwrap_steps u (left - size / 8) (a ++ r) ≡ whole
    unwrap_last a r number end v h =
        let none : end ≡ 0 = omega arith in
        let n : left - size / 8 ≡ number = omega (arith, v.count) in
        ap₂ (λ (k : ℕ) (y : List ℕ). unwrap_steps u k (a ++ y)) n (sym (append-nil r))
        ∙ ap (λ (i : ℕ). unwrap_steps u number (a ++ (drop i r ++ take i r))) (sym none)
        ∙ v.made

-- ---- six rounds

-- as many steps as the standard has
pub six : (a r : List ℕ) → length a ≡ 8 → 6 * (length r / 8) ≡ steps (a ++ r)
unfolding steps
six a r l = let p : length (a ++ r) ≡ 8 + length r = length-append a r ∙ omega arith in rw p (omega arith)

-- after some rounds of wrapping, and with some of unwrapping left
pub record Wrapped (e : List ℕ → List ℕ) (x : List ℕ) (size : ℕ) (a r : List ℕ) (done round : ℕ) : Type 0 where
  pub fits : length a ≡ 8
  pub same : length r ≡ size
  pub top : round ≤ 6
  pub count : done ≡ round * (size / 8)
  pub made : a ++ r ≡ wrap_steps e done x

pub record Unwrapped (u : List ℕ → List ℕ) (whole : List ℕ) (size : ℕ) (a r : List ℕ) (left round : ℕ) : Type 0 where
  pub fits : length a ≡ 8
  pub same : length r ≡ size
  pub count : left ≡ round * (size / 8)
  pub made : unwrap_steps u left (a ++ r) ≡ whole

-- a round is left
rounds_left : (round m : ℕ) → round < 6 → (round + 1) * m ≤ 6 * m
rounds_left round m h = mul-le-mul_right m (omega arith)

one_more : (round m : ℕ) → (round + 1) * m ≡ round * m + m
one_more round m = add-mul round 1 m ∙ omega arith

module _ (e : List ℕ → List ℕ) where
  pub wrapped_first : (a r : List ℕ) → length a ≡ 8 → Wrapped e (a ++ r) (length r) a r 0 0
  unfolding wrap_steps
  wrapped_first a r l = record { fits = l; same = refl; top = omega arith; count = sym (zero-mul (length r / 8)); made = refl }

  pub wrapped_last : (a₀ r₀ a r : List ℕ) (done round : ℕ) → length a₀ ≡ 8 → Wrapped e (a₀ ++ r₀) (length r₀) a r done round → 6 ≤ round → a ++ r ≡ W e (a₀ ++ r₀)
  unfolding W
  wrapped_last a₀ r₀ a r done round l v h =
      let all : round ≡ 6 = omega (arith, v.top) in
      v.made ∙ ap (λ (k : ℕ). wrap_steps e k (a₀ ++ r₀)) (v.count ∙ ap (λ (k : ℕ). k * (length r₀ / 8)) all ∙ six a₀ r₀ l)

  module _ (x : List ℕ) (size : ℕ) where
    pub wrapped_room : {a r : List ℕ} {done round : ℕ} → Wrapped e x size a r done round → round < 6 → size ≤ 128 → done + size / 8 < 256
    wrapped_room {done = done} {round = round} v h w = omega (arith, v.count, rounds_left round (size / 8) h, one_more round (size / 8))

    pub wrapped_next : (a r : List ℕ) (done round : ℕ) {a' r' : List ℕ} → Wrapped e x size a r done round → round < 6 → length a' ≡ length a → length r' ≡ length r
        → a' ++ r' ≡ wrap_more e done (length r / 8) (a ++ r) → Wrapped e x size a' r' (done + size / 8) (round + 1)
    wrapped_next a r done round v h l m p = record {
      fits = l ∙ v.fits;
      same = m ∙ v.same;
      top = omega arith;
      count = omega (arith, v.count, one_more round (size / 8));
      made = p ∙ ap₂ (λ (k : ℕ) (y : List ℕ). wrap_more e done (k / 8) y) v.same v.made ∙ wrap_more_steps e done (size / 8) x;
    }

module _ (u : List ℕ → List ℕ) where
  pub unwrapped_first : (a r : List ℕ) → length a ≡ 8 → Unwrapped u (W⁻¹ u (a ++ r)) (length r) a r (6 * (length r / 8)) 6
  unfolding W⁻¹
  unwrapped_first a r l = record {
    fits = l;
    same = refl;
    count = refl;
    made = ap (λ (k : ℕ). unwrap_steps u k (a ++ r)) (six a r l);
  }

  module _ (whole : List ℕ) (size : ℕ) where
    pub unwrapped_last : (a r : List ℕ) (left round : ℕ) → Unwrapped u whole size a r left round → round ≤ 0 → a ++ r ≡ whole
    unfolding unwrap_steps
    unwrapped_last a r left round v h =
        let done : round ≡ 0 = omega arith in
        let none : left ≡ 0 = v.count ∙ ap (λ (k : ℕ). k * (size / 8)) done ∙ zero-mul (size / 8) in
        ap (λ (k : ℕ). unwrap_steps u k (a ++ r)) (sym none) ∙ v.made

    -- a round's steps are left
    split : (round : ℕ) → 0 < round → round * (size / 8) ≡ (round - 1) * (size / 8) + size / 8
    split round h = let e : round ≡ round - 1 + 1 = omega arith in ap (λ (k : ℕ). k * (size / 8)) e ∙ one_more (round - 1) (size / 8)

    pub unwrapped_room : {a r : List ℕ} {left round : ℕ} → Unwrapped u whole size a r left round → 0 < round → size / 8 ≤ left
    unwrapped_room {left = left} {round = round} v h = omega (arith, v.count, split round h)

    pub unwrapped_next : (a r : List ℕ) (left round : ℕ) {a' r' : List ℕ} → Unwrapped u whole size a r left round → 0 < round → length a' ≡ length a → length r' ≡ length r
        → unwrap_steps u (left - length r / 8) (a' ++ r') ≡ unwrap_steps u left (a ++ r) → Unwrapped u whole size a' r' (left - size / 8) (round - 1)
    unwrapped_next a r left round {a'} {r'} v h l m p = record {
      fits = l ∙ v.fits;
      same = m ∙ v.same;
      count = omega (arith, v.count, split round h);
      made = ap (λ (k : ℕ). unwrap_steps u (left - k / 8) (a' ++ r')) (sym v.same) ∙ p ∙ v.made;
    }
