-- The words that are copied are those that are read one by one.
-- Assumes nothing.
use Rattle.std.proofs.Common.{◌≡◌, ℕ, ◌++◌, ◌+◌, ◌-◌, ◌≤◌, List, length, ap, ◌∙◌, take, drop, arith}
use Rattle.std.proofs.lemmas.List.{get_or-drop, drop-drop, length-drop}
use Rattle.forms.specs.Lists.{words_from}
use Rattle.forms.proofs.Lists.{take_tabulate, tabulate_cong}
use Rattle.schedule.proofs.lay.Goals as goal

copied : (n from : ℕ) (ws : List ℕ) → from + n ≤ length ws → take n (drop from ws) ≡ words_from n from ws
unfolding words_from
copied n from ws h = take_tabulate n (drop from ws) (omega (arith, length-drop from ws)) ∙ tabulate_cong n _ _ (λ i l. get_or-drop from ws i 0)

pub returns : goal.returns
returns c =
    let a = c.args in
    let n : a.at + a.n - a.at ≡ a.n = omega arith in
    let m : a.from + a.n - a.from ≡ a.n = omega arith in
    rw n (ap (λ (x : List ℕ). take a.at a.ks.now ++ (x ++ drop a.n (drop a.at a.ks.now)))
    (c.copy_from_slice.ensures.after ∙ ap (λ (k : ℕ). take k (drop a.from a.words.now)) m ∙ copied a.n a.from a.words.now (omega arith))
    ∙ ap (λ (x : List ℕ). take a.at a.ks.now ++ (words_from a.n a.from a.words.now ++ x)) (drop-drop a.n a.at a.ks.now))
