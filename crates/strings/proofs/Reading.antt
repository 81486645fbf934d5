-- Bytes read from a place on: what stands there laid over zeros.
-- Assumes nothing.
use mathlib.Core.Path.{◌≡◌, sym, ap, ◌∙◌}
use mathlib.Core.List.{List, [], ◌∷◌, ◌++◌}
use Prim.Native.Nat.{ℕ, zero, suc, ◌-◌, ◌≤◌}
use native.Mathlib.Omega.{arith}
use lib.ListN.{length, get_or, take, drop, replicate, length-replicate, length-drop, drop_of_length-le}
use lib.Seq.{take-nil, drop-nil, get_or-drop, take_all}
use Rattle.forms.specs.Lists.{tabulate, words_from}
use Rattle.forms.proofs.Lists.{tabulate_cong}

-- a string laid over zeros
over_zeros : (n : ℕ) (xs : List ℕ) → take n xs ++ drop (length xs) (replicate n 0) ≡ tabulate n (λ i. get_or xs i 0)
unfolding tabulate
over_zeros zero xs = drop-nil (length xs)
over_zeros (suc n) [] = ap (◌∷◌ 0) (ap (λ (x : List ℕ). x ++ replicate n 0) (sym (take-nil n)) ∙ over_zeros n [])
over_zeros (suc n) (x ∷ xs) = ap (◌∷◌ x) (over_zeros n xs)

pub from_zeros : (n at : ℕ) (b : List ℕ) → take n (drop at b) ++ drop (length (drop at b)) (replicate n 0) ≡ words_from n at b
unfolding words_from
from_zeros n at b = over_zeros n (drop at b) ∙ tabulate_cong n _ _ (λ i h. get_or-drop at b i 0)

-- what stands from a place on, lent to the end
pub to_end : (xs : List ℕ) (at : ℕ) → take (length xs - at) (drop at xs) ≡ drop at xs
to_end xs at = take_all (length xs - at) (drop at xs) (omega (arith, length-drop at xs))

pub laid_from : (n at : ℕ) (b : List ℕ) {r : List ℕ} → r ≡ take (length {A = ℕ} (replicate n 0)) (take (length b - at) (drop at b)) ++ drop (length (take (length b - at) (drop at b))) (replicate n 0)
    → r ≡ words_from n at b
laid_from n at b e =
    e ∙ ap (λ (k : ℕ). take k (take (length b - at) (drop at b)) ++ drop (length (take (length b - at) (drop at b))) (replicate n 0)) (length-replicate {A = ℕ} n 0)
    ∙ ap (λ (x : List ℕ). take n x ++ drop (length x) (replicate n 0)) (to_end b at) ∙ from_zeros n at b

-- nothing stands from a place on
pub nothing_from : (n at : ℕ) (b : List ℕ) → length b ≤ at → replicate n 0 ≡ words_from n at b
nothing_from n at b h =
    ap (λ (x : List ℕ). x ++ replicate n 0) (sym (take-nil n)) ∙ ap (λ (x : List ℕ). take n x ++ drop (length x) (replicate n 0)) (sym (drop_of_length-le b {i = at} h))
    ∙ from_zeros n at b
