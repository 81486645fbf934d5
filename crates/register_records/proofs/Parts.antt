-- Parts of a register that are read and written one after another.
-- Assumes nothing.
use mathlib.Core.Path.{◌≡◌, refl, sym, ap, ap₂, ◌∙◌}
use mathlib.Core.Bool.{true}
use mathlib.Core.List.{List, ◌++◌, append-nil}
use Prim.Native.Nat.{ℕ, ◌+◌, ◌*◌, ◌≤◌, ◌<◌}
use native.Mathlib.Omega.{arith}
use borrow.Author.Tests.{eq-eqb, ne_eqb, lt-ltb, le-ltb}
use lib.Dec.{eqb}
use lib.ListN.{length, drop_of_length-le}
use Rattle.forms.specs.Lists.{tabulate, when}
use Rattle.forms.specs.Words.{byte}
use Rattle.forms.proofs.Bytes.{Bytes}
use Rattle.forms.proofs.Buffers.{put, put_put}
use Rattle.forms.proofs.Whole.{written}
use Rattle.buffers.specs.Words.{word_at, with_word}
use Rattle.buffers.proofs.Words.{copied, copied_put, with_word_lem}
use Rattle.word_bytes.proofs.Words.{le_two_bytes}
use Rattle.std.specs.Int.{w16, to_le_bytes}
use Rattle.registers.specs.declared.Entry.{Entry}
use Rattle.registers.specs.Registers.{extended}
use Rattle.register_layout.specs.Layout.{two_bytes, entry_bytes, register_in, register_bytes, has_room}
use Rattle.register_layout.proofs.Registers.{one_more}

-- an entry's numbers, and its key behind them
pub entry_laid : (e : Entry) (d : List ℕ) (at : ℕ) {n m k : List ℕ} → at + 44 ≤ length d → n ≡ to_le_bytes w16 e.number → m ≡ to_le_bytes w16 e.replaces → k ≡ e.key
    → copied (at + 4) (at + 44) k (copied (at + 2) (at + 4) m (copied at (at + 2) n d)) ≡ put at 44 (entry_bytes e) d
unfolding entry_bytes two_bytes tabulate
entry_laid e d at {n} {m} {k} h p q r =
    let x : List ℕ = tabulate 2 (byte e.number) in
    let y : List ℕ = tabulate 2 (byte e.replaces) in
    copied_put (at + 4) (at + 44) 40 k _ (omega arith)
    ∙ ap₂ (put (at + 4) 40) r
    (copied_put (at + 2) (at + 4) 2 m _ (omega arith)
    ∙ ap₂ (put (at + 2) 2) (q ∙ le_two_bytes e.replaces) (copied_put at (at + 2) 2 n d (omega arith) ∙ ap (λ (z : List ℕ). put at 2 z d) (p ∙ le_two_bytes e.number))
    ∙ put_put d x at 2 refl (omega arith) y 2)
    ∙ put_put d (x ++ y) at 4 refl (omega arith) e.key 40

-- an entry in a buffer of its length
pub entry_written : (e : Entry) (d : List ℕ) {d₁ : List ℕ} → length d ≡ 44 → d₁ ≡ put 0 44 (entry_bytes e) d → d₁ ≡ when (eqb (length d) 44) (entry_bytes e) d
entry_written e d h p =
    written d (entry_bytes e) 44 h
    (p ∙ ap (λ (x : List ℕ). entry_bytes e ++ x) (drop_of_length-le d {i = 44} (omega arith)) ∙ append-nil (entry_bytes e))

-- ---- one more entry

module _ (d : List ℕ) where
  pub other_length : (x : List ℕ) → (length d ≡ 2824 → ⊥) → d ≡ when (has_room d) x d
  unfolding has_room
  other_length x h = rw (ne_eqb (length d) 2824 h)

  module _ (h : length d ≡ 2824) where
    pub full : (x : List ℕ) → 64 ≤ word_at d 0 → d ≡ when (has_room d) x d
    unfolding has_room register_in
    full x l = rw (eq-eqb (length d) 2824 h, le-ltb (word_at d 0) 64 l)

    pub room_there : (register_in d).count < 64 → has_room d ≡ true
    unfolding has_room
    room_there l = rw (eq-eqb (length d) 2824 h, lt-ltb (register_in d).count 64 l)

    pub put_behind_others : Bytes d → (e : Entry) {n : ℕ} {d₁ d₂ : List ℕ} → n ≡ word_at d 0 → n < 64 → d₁ ≡ with_word 0 (n + 1) d → d₂ ≡ put (8 + 44 * n) 44 (entry_bytes e) d₁
        → d₂ ≡ when (has_room d) (register_bytes (extended (register_in d) e)) d
    unfolding register_in
    put_behind_others small e {n} c l p q =
        rw (room_there (omega arith))
        (q ∙ ap (put (8 + 44 * n) 44 (entry_bytes e)) (p ∙ with_word_lem 0 (n + 1) d (omega arith))
        ∙ ap (λ (n : ℕ). put (8 + 44 * n) 44 (entry_bytes e) (put 0 8 (tabulate 8 (byte (n + 1))) d)) c
        ∙ sym (one_more d h small e (omega arith)))
