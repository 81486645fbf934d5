-- Laws of operands: bytes that are zero, and a word of 8 bytes that is mapped.
-- Assumes nothing.
use mathlib.Core.Path.{◌≡◌, refl, sym, ap, ◌∙◌}
use mathlib.Core.Bool.{Bool, true, false}
use mathlib.Core.List.{List, [], ◌∷◌}
use mathlib.Core.Logic.{◌↔◌, ◌≢◌, ⊎_elim}
use Prim.Native.Nat.{ℕ, zero, suc, ◌≤◌, ◌<◌}
use native.Mathlib.Omega.{arith}
use borrow.Author.Tests.{eq-eqb, eqb-true}
use lib.Dec.{eqb}
use lib.ListN.{length, get_or}
use Rattle.std.proofs.lemmas.Bool.{cases_lt}
use Rattle.std.proofs.lemmas.List.{get_or_past}
use Rattle.std.specs.Bool.{MatchBool}
use Rattle.std.specs.List.{AllWithin, HoldsAt}
use Rattle.std.specs.Int.{w64, to_le_bytes, from_le_bytes}
use Rattle.word_bytes.proofs.Words.{le_bytes, from_le}
use Rattle.forms.specs.Lists.{tabulate}
use Rattle.forms.specs.Words.{byte, join, words, bytes}
use Rattle.forms.proofs.Booleans.{and_both, false_unless}
use Rattle.labyrinth.specs.Blocks.{each}
use Rattle.operands.specs.Operands.{zeros}

-- ---- in plain terms

zeros_down : (xs : List ℕ) → zeros xs ≡ true → (i : ℕ) → get_or xs i 0 ≡ 0
unfolding zeros
zeros_down [] e i = refl
zeros_down (x ∷ xs) e zero = eqb-true x 0 (and_both (eqb x 0) (zeros xs) e).0
zeros_down (x ∷ xs) e (suc i) = zeros_down xs (and_both (eqb x 0) (zeros xs) e).1 i

zeros_up : (xs : List ℕ) → ((i : ℕ) → get_or xs i 0 ≡ 0) → zeros xs ≡ true
unfolding zeros
zeros_up [] h = refl
zeros_up (x ∷ xs) h = rw (eq-eqb x 0 (h 0)) (zeros_up xs (λ i. h (suc i)))

-- bytes are zeros exactly when each is 0
pub zeros_iff : (xs : List ℕ) → (zeros xs ≡ true) ↔ ((i : ℕ) → get_or xs i 0 ≡ 0)
zeros_iff xs = (zeros_down xs, zeros_up xs)

-- as the code tests them, each byte alone
pub zeros_all : (xs : List ℕ) (r : Bool) → MatchBool r (AllWithin (λ x. x ≡ 0) xs 0 (length xs)) ((k : ℕ) × (k < length xs) × HoldsAt (λ x. x ≢ 0) xs k) → r ≡ zeros xs
zeros_all xs true h = sym (zeros_up xs each)
  where
    each : (i : ℕ) → get_or xs i 0 ≡ 0
    each i = ⊎_elim (λ (l : i < length xs). h i 0 (omega arith) l) (λ (m : length xs ≤ i). get_or_past xs i 0 m) (cases_lt i (length xs))
zeros_all xs false h = sym (false_unless (zeros xs) (λ e. h.2 0 (zeros_down xs e h.0)))

-- ---- a word of 8 bytes

word_bytes : (f : ℕ → ℕ) (xs : List ℕ) → bytes 1 (each 1 f (words 1 xs)) ≡ tabulate 8 (byte (f (join 8 (λ i. get_or xs i 0))))
unfolding bytes each words tabulate join
word_bytes f xs = refl

-- mapped by f: as the library makes a word of bytes, and bytes of a word
pub word_mapped : (f : ℕ → ℕ) (xs : List ℕ) {v w : ℕ} {r : List ℕ} → v ≡ from_le_bytes w64 xs → w ≡ f v → r ≡ to_le_bytes w64 w → r ≡ bytes 1 (each 1 f (words 1 xs))
word_mapped f xs {v} {w} e g p =
    p ∙ le_bytes w ∙ ap (λ (x : ℕ). tabulate 8 (byte x)) (g ∙ ap f (e ∙ from_le xs)) ∙ sym (word_bytes f xs)
