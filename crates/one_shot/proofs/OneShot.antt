-- A key expanded and used at once, whatever the operation.
-- Assumes nothing.
use mathlib.Core.Path.{◌≡◌, refl, sym, ap, ◌∙◌}
use mathlib.Core.Bool.{Bool}
use mathlib.Core.Logic.{inl, inr}
use mathlib.Core.List.{List}
use Prim.Native.Nat.{ℕ, zero, suc, ◌*◌}
use native.Mathlib.Omega.{arith}
use lib.ListN.{length}
use Rattle.forms.specs.Refusals.{Unless, outcome}
use Rattle.forms.proofs.Refusals.{refused_keeps}
use Rattle.forms.proofs.Twice.{first_refused, first_passed, first_plain}
use Rattle.labyrinth.specs.declared.Expanded.{Expanded}
use Rattle.labyrinth.specs.Cipher.{article}
use Rattle.labyrinth.specs.Keys.{E}
use Rattle.labyrinth.specs.Refusals.{Legal, LegalLength, expand_refusal, expansion}
use Rattle.labyrinth.proofs.Refusals.{expand_number, expand_iff}
use Rattle.labyrinth.proofs.Expansion.{expansion_number}
use Rattle.modes.specs.Cmac.{valid}
use Rattle.modes.specs.Refusals.{cmac_refusal}
use Rattle.cmac.specs.declared.Verified.{Verified}
use Rattle.cmac.specs.Verification.{verification}
use Rattle.cmac.proofs.Tags.{verification_number}
use Rattle.one_shot.specs.OneShot.{key_of, number_of, yes_byte}

-- in plain terms: 1, 2 and 3 as expansion has them, then the operation's own
pub number_plain : (n l : ℕ) (key : List ℕ) (operation : ℕ) {r : ℕ} → r ≡ number_of n l key operation
    → Unless (Legal n) (r ≡ 1) (Unless (LegalLength l) (r ≡ 2) (Unless (length key ≡ 8 * (n * l)) (r ≡ 3) (r ≡ operation)))
number_plain n l key operation {r} e = by_first (first_plain (expand_refusal n l (length key)) operation e)
  where
    by_check : (r ≡ 0 → ⊥) → Unless (Legal n) (r ≡ 1) (Unless (LegalLength l) (r ≡ 2) (Unless (length key ≡ 8 * (n * l)) (r ≡ 3) (r ≡ 0)))
        → Unless (Legal n) (r ≡ 1) (Unless (LegalLength l) (r ≡ 2) (Unless (length key ≡ 8 * (n * l)) (r ≡ 3) (r ≡ operation)))
    by_check h (inl u) = inl u
    by_check h (inr (a, inl u)) = inr (a, inl u)
    by_check h (inr (a, inr (b, inl u))) = inr (a, inr (b, inl u))
    by_check h (inr (a, inr (b, inr (c, z)))) = absurd (h z)

    by_first : Unless (expand_refusal n l (length key) ≡ 0) (r ≡ expand_refusal n l (length key)) (r ≡ operation)
        → Unless (Legal n) (r ≡ 1) (Unless (LegalLength l) (r ≡ 2) (Unless (length key ≡ 8 * (n * l)) (r ≡ 3) (r ≡ operation)))
    by_first (inl u) = by_check (λ z. u.0 (sym u.1 ∙ z)) (expand_number n l (length key) u.1)
    by_first (inr u) = let t = (expand_iff n l (length key)).0 u.0 in inr (t.0, inr (t.1, inr (t.2, u.1)))

-- of an expansion that passed the size
size_of : (SM : ℕ → ℕ) (n l : ℕ) (key : List ℕ) (r : ℕ) → r ≡ 0 → (expansion SM 0 n l key r).key.n ≡ n
unfolding expansion
size_of SM n l key zero e = refl
size_of SM n l key (suc r) e = let f : ⊥ = omega arith in absurd f

-- what an expansion answered
module _ (n l : ℕ) (key : List ℕ) {x : Expanded} (e : x ≡ expansion article.SM 0 n l key (expand_refusal n l (length key))) where
  number_is : x.number ≡ expand_refusal n l (length key)
  number_is = ap (λ (y : Expanded). y.number) e ∙ expansion_number article.SM 0 n l key (expand_refusal n l (length key))

  refused_number : (x.number ≡ 0 → ⊥) → (operation : ℕ) → x.number ≡ number_of n l key operation
  refused_number h operation = number_is ∙ first_refused _ operation (λ z. h (number_is ∙ z))

  passed_number : x.number ≡ 0 → (operation : ℕ) → operation ≡ number_of n l key operation
  passed_number z operation = first_passed _ operation (sym number_is ∙ z)

  -- whatever is made of the size and the words of a key
  passed_key : {A : Type 0} (f : ℕ → List ℕ → A) → x.number ≡ 0 → f x.key.n x.key.words ≡ f n (key_of n l key).words
  unfolding key_of
  passed_key f z =
      ap (λ (m : ℕ). f m x.key.words) (ap (λ (y : Expanded). y.key.n) e ∙ size_of article.SM n l key _ (sym number_is ∙ z))
      ∙ ap (λ (y : Expanded). f n y.key.words) e

-- an operation on a buffer
module _ (n l : ℕ) (key : List ℕ) (operation : ℕ → ℕ) (result : ℕ → List ℕ → List ℕ) (before : List ℕ) where
  -- what is promised
  abbrev pub Done : ℕ → List ℕ → Type 0
  Done number after = (number ≡ number_of n l key (operation n)) × (after ≡ outcome number (result n (key_of n l key).words) before)

  module _ {x : Expanded} (e : x ≡ expansion article.SM 0 n l key (expand_refusal n l (length key))) where
    pub key_refused : (x.number ≡ 0 → ⊥) → Done x.number before
    key_refused h = (refused_number n l key e h (operation n), refused_keeps x.number _ before h)

    pub key_passed : x.number ≡ 0 → {number : ℕ} {after : List ℕ} → (number ≡ operation x.key.n) × (after ≡ outcome number (result x.key.n x.key.words) before) → Done number after
    key_passed z {number} p = (
      p.0 ∙ passed_key n l key e (λ m ws. operation m) z ∙ passed_number n l key e z (operation n),
      p.1 ∙ passed_key n l key e (λ m ws. outcome number (result m ws) before) z,
    )

-- a tag verified: the byte that says yes, beside the number
told_yes : (e : List ℕ → List ℕ) (message given : List ℕ) (r : ℕ) → yes_byte 0 (verification e message given r).yes ≡ yes_byte (verification e message given r).number (valid e message given)
unfolding verification
told_yes e message given zero = refl
told_yes e message given (suc r) = refl

pub told_byte : (e : List ℕ → List ℕ) (message given : List ℕ) (r : ℕ) {v : Verified} {told : ℕ} → v ≡ verification e message given r → told ≡ yes_byte 0 v.yes
    → told ≡ yes_byte v.number (valid e message given)
told_byte e message given r w q =
    q ∙ ap (λ (y : Verified). yes_byte 0 y.yes) w ∙ told_yes e message given r ∙ ap (λ (y : Verified). yes_byte y.number (valid e message given)) (sym w)

module _ (n l : ℕ) (key message given : List ℕ) where
  -- what is promised
  abbrev pub Told : ℕ → ℕ → Type 0
  Told number told = (number ≡ number_of n l key (cmac_refusal n (length given))) × (told ≡ yes_byte number (valid (E article n (key_of n l key).words) message given))

  module _ {x : Expanded} (e : x ≡ expansion article.SM 0 n l key (expand_refusal n l (length key))) where
    pub verify_refused : (x.number ≡ 0 → ⊥) → Told x.number 0
    verify_refused h = (refused_number n l key e h (cmac_refusal n (length given)), none x.number (valid (E article n (key_of n l key).words) message given) h)
      where
        none : (r : ℕ) (b : Bool) → (r ≡ 0 → ⊥) → 0 ≡ yes_byte r b
        none zero b h = absurd (h refl)
        none (suc r) b h = refl

    pub verify_passed : x.number ≡ 0 → {v : Verified} {told : ℕ}
        → v ≡ verification (E article x.key.n x.key.words) message given (cmac_refusal x.key.n (length given)) → told ≡ yes_byte 0 v.yes → Told v.number told
    verify_passed z {v} {told} p q =
        let w : v ≡ verification (E article n (key_of n l key).words) message given (cmac_refusal n (length given)) =
        p ∙ passed_key n l key e (λ m ws. verification (E article m ws) message given (cmac_refusal m (length given))) z in (
          ap (λ (y : Verified). y.number) w ∙ verification_number _ message given _ ∙ passed_number n l key e z (cmac_refusal n (length given)),
          told_byte _ message given _ w q,
        )
