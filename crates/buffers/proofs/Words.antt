-- Laws of words in a buffer: where they have room.
-- Assumes nothing.
use mathlib.Core.Path.{◌≡◌, sym, ap, ◌∙◌}
use mathlib.Core.Bool.{true, false}
use mathlib.Core.List.{List, ◌++◌}
use Prim.Native.Nat.{ℕ, ◌+◌, ◌-◌, ◌≤◌, ◌<◌}
use native.Mathlib.Omega.{arith}
use lib.ListN.{length, get_or, take, drop}
use lib.Seq.{get_or-take, get_or-drop, drop-drop}
use borrow.Author.Tests.{le-leb}
use Rattle.std.proofs.lemmas.Bool.{lt-leb}
use Rattle.std.specs.Int.{w64, to_le_bytes, from_le_bytes}
use Rattle.forms.specs.Lists.{tabulate, pick}
use Rattle.forms.specs.Words.{byte, join}
use Rattle.forms.proofs.Words.{join_cong}
use Rattle.forms.proofs.Buffers.{put}
use Rattle.word_bytes.proofs.Words.{le_bytes, from_le}
use Rattle.buffers.specs.Words.{inside, word_at, with_word}

pub is_inside : (at size : ℕ) → at + 8 ≤ size → inside at size ≡ true
unfolding inside
is_inside at size h = le-leb (at + 8) size h

pub word_at_lem : (s : List ℕ) (at : ℕ) → at + 8 ≤ length s → word_at s at ≡ join 8 (λ b. get_or s (at + b) 0)
unfolding word_at pick
word_at_lem s at h = rw (is_inside at (length s) h)

pub with_word_lem : (at w : ℕ) (d : List ℕ) → at + 8 ≤ length d → with_word at w d ≡ put at 8 (tabulate 8 (byte w)) d
unfolding with_word
with_word_lem at w d h = rw (is_inside at (length d) h)

-- and where they have none
not_inside : (at size : ℕ) → size < at + 8 → inside at size ≡ false
unfolding inside
not_inside at size h = lt-leb (at + 8) size h

pub word_none : (s : List ℕ) (at : ℕ) → length s < at + 8 → 0 ≡ word_at s at
unfolding word_at pick
word_none s at h = rw (not_inside at (length s) h)

pub with_none : (at w : ℕ) (d : List ℕ) → length d < at + 8 → d ≡ with_word at w d
unfolding with_word
with_none at w d h = rw (not_inside at (length d) h)

-- xs copied over a part of its length, as `d[at..to].copy_from_slice(xs)` leaves d
abbrev pub copied : ℕ → ℕ → List ℕ → List ℕ → List ℕ
copied at to xs d = take at d ++ (xs ++ drop (to - at) (drop at d))

pub copied_put : (at to m : ℕ) (xs d : List ℕ) → to - at ≡ m → copied at to xs d ≡ put at m xs d
copied_put at to m xs d e = ap (λ (x : List ℕ). take at d ++ (xs ++ x)) (drop-drop (to - at) at d ∙ ap (λ (i : ℕ). drop (at + i) d) e)

-- as the library's methods make them
pub word_loaded : (s : List ℕ) (at : ℕ) {m : ℕ} {b : List ℕ} {w : ℕ} → at + 8 ≤ length s → 8 ≤ m → b ≡ take 8 (take m (drop at s)) → w ≡ from_le_bytes w64 b → w ≡ word_at s at
word_loaded s at {m} {b} h long p q =
    q ∙ from_le b
    ∙ join_cong 8 _ _
    (λ k l. ap (λ (x : List ℕ). get_or x k 0) p ∙ get_or-take 8 (take m (drop at s)) k 0 l ∙ get_or-take m (drop at s) k 0 (omega arith) ∙ get_or-drop at s k 0)
    ∙ sym (word_at_lem s at h)

pub word_stored : (d : List ℕ) (at w : ℕ) {b : List ℕ} → at + 8 ≤ length d → b ≡ to_le_bytes w64 w → copied at (at + 8) b d ≡ with_word at w d
word_stored d at w {b} h p =
    copied_put at (at + 8) 8 b d (omega arith) ∙ ap (λ (x : List ℕ). put at 8 x d) (p ∙ le_bytes w) ∙ sym (with_word_lem at w d h)
