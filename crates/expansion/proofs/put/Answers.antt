-- The words that are copied stand behind the half-blocks before, and zeros behind them.
-- Assumes nothing.
use Rattle.std.proofs.Common.{◌≡◌, ℕ, ◌+◌, ◌-◌, ◌*◌, List, ◌++◌, length, take, drop, get_or, replicate, sym, ap, ap₂, ◌∙◌, arith, take_at, drop_at}
use Rattle.std.proofs.lemmas.List.{drop-replicate, length-append}
use mathlib.Core.List.{append_assoc}
use Rattle.forms.specs.Lists.{tabulate}
use Rattle.forms.proofs.Lists.{take_tabulate, length_tabulate}
use Rattle.labyrinth.specs.Refusals.{padded}
use Rattle.expansion.proofs.put.Goals as goal

placed : (ks x : List ℕ) (at n : ℕ) → length ks ≡ at → length x ≡ n → take at (padded ks) ++ (x ++ drop n (drop at (padded ks))) ≡ padded (ks ++ x)
unfolding padded
placed ks x at n e h =
    let zeros : ℕ → List ℕ = λ m. replicate m 0 in
    let left : 32 - length ks - n ≡ 32 - length (ks ++ x) = omega (arith, length-append ks x) in
    ap₂ (λ (p q : List ℕ). p ++ (x ++ drop n q)) (take_at ks (zeros (32 - length ks)) at e) (drop_at ks (zeros (32 - length ks)) at e)
    ∙ ap (λ (z : List ℕ). ks ++ (x ++ z)) (drop-replicate n (32 - length ks) 0 ∙ ap zeros left)
    ∙ sym (append_assoc ks x (zeros (32 - length (ks ++ x))))

pub returns : goal.returns
returns c ks len e =
    let a = c.args in
    let n : ℕ = a.n in
    let at : ℕ = a.j * n in
    let x : List ℕ = tabulate n (λ i. get_or a.y.now i 0) in
    let m : at + n - at ≡ n = omega arith in
    ap₂ (λ (w y : List ℕ). take at w ++ (y ++ drop (at + n - at) (drop at w))) e (c.copy_from_slice.ensures.after ∙ take_tabulate n a.y.now (omega arith))
    ∙ ap (λ (k : ℕ). take at (padded ks) ++ (x ++ drop k (drop at (padded ks)))) m
    ∙ placed ks x at n len (length_tabulate n _)
