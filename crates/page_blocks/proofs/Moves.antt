-- Blocks moved apart and gathered: what holds at each turn of the loops.
-- Assumes nothing.
use mathlib.Core.Path.{◌≡◌, sym, ap, ap₂, ◌∙◌}
use mathlib.Core.List.{List, ◌∷◌, ◌++◌}
use Prim.Native.Nat.{ℕ, suc, ◌+◌, ◌-◌, ◌*◌, ◌≤◌, ◌<◌}
use native.Mathlib.Omega.{arith}
use lib.ListN.{length, take, drop}
use lib.Seq.{drop-drop}
use Rattle.forms.proofs.Parts.{part_turn, part_behind, all_filled}
use Rattle.pages.specs.Pages.{sealed_commands, behind, sealed_operands}

-- a list with a part that came back
abbrev pub with_part : List ℕ → List ℕ → ℕ → ℕ → List ℕ
with_part d ys at end = take at d ++ (ys ++ drop (end - at) (drop at d))

-- from a place behind the part the list is what it was
behind_part : (d ys : List ℕ) (at end k : ℕ) → at ≤ end → end ≤ length d → length ys ≡ end - at → end ≤ k → drop k (with_part d ys at end) ≡ drop k d
behind_part d ys at end k h m e o =
    let on : k ≡ end + (k - end) = omega arith in
    let d' = with_part d ys at end in
    ap (λ (i : ℕ). drop i d') on ∙ sym (drop-drop (k - end) end d') ∙ ap (drop (k - end)) (part_behind d ys at end h m e)
    ∙ drop-drop (k - end) end d ∙ ap (λ (i : ℕ). drop i d) (sym on)

-- ---- apart

-- what is to become of d, i commands being made and the blocks of the others left
abbrev pub moving : ℕ → ℕ → List ℕ → List ℕ
moving count i d = take (17 * i) d ++ sealed_commands (count - i) (drop (count + 16 * i) d)

pub moving_next : (d c : List ℕ) (count i : ℕ) → length d ≡ 17 * count → i < count → length c ≡ 17
    → c ≡ 0x15 ∷ take (count + 16 * i + 16 - (count + 16 * i)) (drop (count + 16 * i) d)
    → moving count (i + 1) (with_part d c (17 * i) (17 * i + 17)) ≡ moving count i d
unfolding sealed_commands
moving_next d c count i s h l e =
    let at = 17 * i in
    let end = at + 17 in
    let from = count + 16 * i in
    let j = count - (i + 1) in
    let d' = with_part d c at end in
    let last : 17 * (i + 1) ≡ end = omega arith in
    let next : count + 16 * (i + 1) ≡ from + 16 = omega arith in
    let left : suc j ≡ count - i = omega arith in
    let size : from + 16 - from ≡ 16 = omega arith in
    let rest : drop (count + 16 * (i + 1)) d' ≡ drop 16 (drop from d) =
    behind_part d c at end (count + 16 * (i + 1)) (omega arith) (omega arith) (omega arith) (omega arith) ∙ ap (λ (k : ℕ). drop k d) next ∙ sym (drop-drop 16 from d) in
    ap (λ (k : ℕ). take k d' ++ sealed_commands j (drop (count + 16 * (i + 1)) d')) last
    ∙ part_turn d c at end (omega arith) (omega arith) (omega arith) (sealed_commands j (drop (count + 16 * (i + 1)) d'))
    ∙ ap₂ (λ (x y : List ℕ). take at d ++ (x ++ sealed_commands j y)) (e ∙ ap (λ (k : ℕ). 0x15 ∷ take k (drop from d)) size) rest
    ∙ ap (λ (k : ℕ). take at d ++ sealed_commands k (drop from d)) left

pub moving_last : (d : List ℕ) (count i : ℕ) {whole : List ℕ} → length d ≡ 17 * count → i ≡ count → moving count i d ≡ whole → d ≡ whole
unfolding sealed_commands
moving_last d count i s e w =
    let z : count - i ≡ 0 = omega arith in
    all_filled d (17 * i) (omega arith) (ap (λ (k : ℕ). sealed_commands k (drop (count + 16 * i) d)) z) w

-- ---- gathered

-- what is to become of d, i blocks being there and those of the other commands to come
abbrev pub gathering : List ℕ → ℕ → ℕ → List ℕ → List ℕ
gathering commands count i d = take (16 * i) d ++ sealed_operands (count - i) (drop (17 * i) commands)

pub gathering_next : (commands d ys : List ℕ) (count i : ℕ) → length d ≡ 16 * count → i < count → length ys ≡ 16
    → ys ≡ take (17 * i + 17 - (17 * i + 1)) (drop (17 * i + 1) commands)
    → gathering commands count (i + 1) (with_part d ys (16 * i) (16 * i + 16)) ≡ gathering commands count i d
unfolding sealed_operands
gathering_next commands d ys count i s h l e =
    let at = 16 * i in
    let end = at + 16 in
    let from = 17 * i in
    let j = count - (i + 1) in
    let d' = with_part d ys at end in
    let last : 16 * (i + 1) ≡ end = omega arith in
    let next : 17 * (i + 1) ≡ from + 17 = omega arith in
    let left : suc j ≡ count - i = omega arith in
    let size : from + 17 - (from + 1) ≡ 16 = omega arith in
    let rest : drop (17 * (i + 1)) commands ≡ behind 16 (drop from commands) = ap (λ (k : ℕ). drop k commands) next ∙ sym (drop-drop 17 from commands) in
    ap (λ (k : ℕ). take k d' ++ sealed_operands j (drop (17 * (i + 1)) commands)) last
    ∙ part_turn d ys at end (omega arith) (omega arith) (omega arith) (sealed_operands j (drop (17 * (i + 1)) commands))
    ∙ ap₂ (λ (x y : List ℕ). take at d ++ (x ++ sealed_operands j y))
    (e ∙ ap (λ (k : ℕ). take k (drop (from + 1) commands)) size ∙ ap (take 16) (sym (drop-drop 1 from commands))) rest
    ∙ ap (λ (k : ℕ). take at d ++ sealed_operands k (drop from commands)) left

pub gathering_last : (commands d : List ℕ) (count i : ℕ) {whole : List ℕ} → length d ≡ 16 * count → i ≡ count → gathering commands count i d ≡ whole → d ≡ whole
unfolding sealed_operands
gathering_last commands d count i s e w =
    let z : count - i ≡ 0 = omega arith in
    all_filled d (16 * i) (omega arith) (ap (λ (k : ℕ). sealed_operands k (drop (17 * i) commands)) z) w
