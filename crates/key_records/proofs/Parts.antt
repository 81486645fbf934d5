-- Parts of a working key that are written one after another.
-- Assumes nothing.
use mathlib.Core.Path.{◌≡◌, sym, ap, ap₂, ◌∙◌}
use mathlib.Core.List.{List, ◌∷◌, ◌++◌, append_assoc}
use Prim.Native.Nat.{ℕ, ◌+◌}
use native.Mathlib.Omega.{arith}
use lib.Dec.{eqb}
use lib.ListN.{length, take, drop, length-append}
use lib.Seq.{take_at}
use Rattle.forms.specs.Lists.{tabulate, when}
use Rattle.forms.specs.Words.{byte, bytes}
use Rattle.forms.proofs.Lists.{length_tabulate}
use Rattle.forms.proofs.Buffers.{put, put_put, length_put}
use Rattle.buffers.specs.Words.{with_word}
use Rattle.buffers.proofs.Words.{with_word_lem}
use Rattle.labyrinth.specs.declared.WorkingKey.{WorkingKey}
use Rattle.records.specs.Records.{key_bytes}
use Rattle.forms.proofs.Whole.{bytes_first, written}

-- n and the set, and the words behind them
pub key_written : (k : WorkingKey) (d : List ℕ) {d₁ d₂ d₃ : List ℕ} → length d ≡ 272 → d₁ ≡ with_word 0 k.n d
    → d₂ ≡ with_word 8 k.set d₁ → d₃ ≡ take 16 d₂ ++ bytes 32 k.words → d₃ ≡ when (eqb (length d) 272) (key_bytes k) d
unfolding key_bytes
key_written k d {d₁} {d₂} h p q r =
    written d _ 272 h
    (r ∙ ap (λ (x : List ℕ). take 16 x ++ bytes 32 k.words) two
    ∙ ap (λ (x : List ℕ). x ++ bytes 32 k.words) (take_at (n_b ++ s_b) (drop 16 d) 16 long)
    ∙ append_assoc n_b s_b (bytes 32 k.words)
    ∙ ap (λ (x : List ℕ). n_b ++ x) (sym (bytes_first 32 (k.set ∷ k.words)))
    ∙ sym (bytes_first 33 (k.n ∷ k.set ∷ k.words)))
  where
    n_b : List ℕ
    n_b = tabulate 8 (byte k.n)

    s_b : List ℕ
    s_b = tabulate 8 (byte k.set)

    long : length (n_b ++ s_b) ≡ 16
    long = length-append n_b s_b ∙ ap₂ ◌+◌ (length_tabulate 8 (byte k.n)) (length_tabulate 8 (byte k.set))

    first : d₁ ≡ put 0 8 n_b d
    first = p ∙ with_word_lem 0 k.n d (omega arith)

    two : d₂ ≡ put 0 16 (n_b ++ s_b) d
    two =
        q ∙ with_word_lem 8 k.set d₁ (omega (arith, ap length first, length_put d n_b 0 8 (length_tabulate 8 (byte k.n)) (omega arith))) ∙ ap (put 8 8 s_b) first ∙ put_put d n_b 0 8 (length_tabulate 8 (byte k.n)) (omega arith) s_b 8
