-- The words that are copied, and zeros behind them.
-- Assumes nothing.
use Rattle.std.proofs.Common.{◌≡◌, ℕ, ◌+◌, ◌-◌, ◌*◌, ◌≤◌, List, [], ◌∷◌, ◌++◌, length, take, drop, refl, sym, ap, ◌∙◌, arith}
use Rattle.std.proofs.lemmas.List.{length-drop, get_or-drop}
use Rattle.forms.proofs.Lists.{take_tabulate, tabulate_cong, length_tabulate}
use Rattle.labyrinth.specs.Keys.{half}
use Rattle.labyrinth.specs.Working.{four_words}
use Rattle.labyrinth.proofs.Schedule.{within}
use Rattle.expansion.proofs.half_of.Goals as goal

copied : (n j : ℕ) (w : List ℕ) → j * n + n ≤ length w → take n (drop (j * n) w) ≡ half n w j
unfolding half
copied n j w h = take_tabulate n (drop (j * n) w) (omega (arith, length-drop (j * n) w)) ∙ tabulate_cong n _ _ (λ i l. get_or-drop (j * n) w i 0)

length_half : (n j : ℕ) (w : List ℕ) → length (half n w j) ≡ n
unfolding half
length_half n j w = length_tabulate n _

filled : (x : List ℕ) → length x ≤ 4 → x ++ drop (length x) (0 ∷ 0 ∷ 0 ∷ 0 ∷ []) ≡ four_words x
unfolding four_words
filled [] h = refl
filled (a ∷ []) h = refl
filled (a ∷ b ∷ []) h = refl
filled (a ∷ b ∷ c ∷ []) h = refl
filled (a ∷ b ∷ c ∷ d ∷ []) h = refl
filled (a ∷ b ∷ c ∷ d ∷ e ∷ x) h = let z : ⊥ = omega arith in absurd z

pub returns : goal.returns
returns c =
    let a = c.args in
    let n : ℕ = a.n in
    let x : List ℕ = half n a.w.now a.j in
    let m : a.j * n + n - a.j * n ≡ n = omega arith in
    let len = length_half n a.j a.w.now in
    ap (λ (z : List ℕ). z ++ drop n (0 ∷ 0 ∷ 0 ∷ 0 ∷ []))
    (c.copy_from_slice.ensures.after ∙ ap (λ (k : ℕ). take k (drop (a.j * n) a.w.now)) m ∙ copied n a.j a.w.now (omega (arith, within n c.requires.0 a.j 8 c.requires.1)))
    ∙ ap (λ (k : ℕ). x ++ drop k (0 ∷ 0 ∷ 0 ∷ 0 ∷ [])) (sym len) ∙ filled x (omega (arith, len))
