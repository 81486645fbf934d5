-- Counter blocks one after another: a loop that makes them, the key stream of them, and a run by it.
-- Assumes nothing.
use mathlib.Core.Path.{◌≡◌, refl, sym, ap, ap₂, ◌∙◌}
use mathlib.Core.List.{List, [], ◌∷◌, ◌++◌}
use Prim.Native.Nat.{ℕ, zero, suc, ◌+◌, ◌-◌, ◌*◌, ◌/◌, ◌%◌, ◌≤◌, ◌<◌}
use native.Mathlib.Nat.{zero-mul, suc-mul, zero-add, suc-add, mul-div_cancel}
use native.Mathlib.Omega.{arith}
use lib.ListN.{length, get_or, take, drop, set, length-append, length-set, take-append-drop, drop_of_length-le}
use lib.Seq.{set-get_or, set_split, set_at, set-append_left, take_at, take_all, drop_at, length-take-le}
use Rattle.forms.specs.Strings.{xor_bytes, number, string}
use Rattle.forms.specs.Mapped.{map_blocks, each_block}
use Rattle.forms.proofs.Bytes.{Bytes, take_bytes}
use Rattle.forms.proofs.Strings.{number_snoc, length_string, string_suc, string_number, xor_bytes_comm, whole_blocks}
use Rattle.forms.proofs.Parts.{block_left, none_left, part_kept, part_turn, all_filled}
use Rattle.modes.specs.Ctr.{counter, key_stream, blocks, ctr}
use Rattle.modes.proofs.Maps.{Keeps}
use Rattle.modes.proofs.Ctr.{length_counter, counter_zero, counter_add, blocks_whole, ctr_append, ctr_counter, ctr_one}
use Rattle.ctr_lent.specs.Counting.{counter_blocks}

-- ---- the last byte apart

module _ (c : List ℕ) (pos : 0 < length c) where
  set_last : (k : ℕ) → set c (length c - 1) k ≡ take (length c - 1) c ++ (k ∷ [])
  set_last k =
      set_split c (length c - 1) k (omega arith)
      ∙ ap (λ (x : List ℕ). take (length c - 1) c ++ (k ∷ x)) (drop_of_length-le c {i = suc (length c - 1)} (omega arith))

  number_last : (k : ℕ) → number (set c (length c - 1) k) ≡ number (take (length c - 1) c) * 256 + k
  number_last k = ap number (set_last k) ∙ number_snoc (take (length c - 1) c) k

  string_last : (v : ℕ) → string (length c) v ≡ string (length c - 1) (v / 256) ++ (v % 256 ∷ [])
  string_last v = let e : length c ≡ suc (length c - 1) = omega arith in ap (λ (z : ℕ). string z v) e ∙ string_suc (length c - 1) v

  -- where it does not wrap, only it changes
  pub last_more : Bytes c → (k : ℕ) → k < 255 → set c (length c - 1) (k + 1) ≡ string (length c) (number (set c (length c - 1) k) + 1)
  last_more h k l =
      let xs : List ℕ = take (length c - 1) c in
      let v : ℕ = number (set c (length c - 1) k) + 1 in
      let q : number xs ≡ v / 256 = omega (arith, number_last k) in
      let r : k + 1 ≡ v % 256 = omega (arith, number_last k) in
      set_last (k + 1)
      ∙ ap₂ (λ (x : List ℕ) (b : ℕ). x ++ (b ∷ [])) (sym (string_number (length c - 1) xs (length-take-le (length c - 1) c (omega arith)) (take_bytes (length c - 1) c h))) r
      ∙ ap (λ (n : ℕ). string (length c - 1) n ++ (v % 256 ∷ [])) q
      ∙ sym (string_last v)

  -- where it wraps, it becomes 0
  pub last_wraps : (k : ℕ) → k ≡ 255 → {next : List ℕ} → next ≡ string (length (set c (length c - 1) 255)) (number (set c (length c - 1) 255) + 1)
      → set next (length c - 1) 0 ≡ string (length c) (number (set c (length c - 1) k) + 1)
  last_wraps k e {next} p =
      let v : ℕ = number (set c (length c - 1) k) + 1 in
      let r : 0 ≡ v % 256 = omega (arith, number_last k) in
      let n : next ≡ string (length c - 1) (v / 256) ++ (v % 256 ∷ []) =
      p ∙ ap₂ (λ (z b : ℕ). string z (number (set c (length c - 1) b) + 1)) (length-set c (length c - 1) 255) (sym e) ∙ string_last v in
      ap₂ (λ (x : List ℕ) (b : ℕ). set x (length c - 1) b) n r
      ∙ set_at (string (length c - 1) (v / 256)) (v % 256) [] (v % 256) (length c - 1) (length_string (length c - 1) (v / 256))
      ∙ sym (string_last v)

-- a byte of a part of a buffer
set_behind : (p q : List ℕ) (i v : ℕ) → set (p ++ q) (length p + i) v ≡ p ++ set q i v
set_behind [] q i v = ap (λ (k : ℕ). set q k v) (zero-add i)
set_behind (x ∷ p) q i v = ap (λ (k : ℕ). set (x ∷ (p ++ q)) k v) (suc-add (length p) i) ∙ ap (◌∷◌ x) (set_behind p q i v)

set_part : (p xs rest : List ℕ) (i v j : ℕ) → j ≡ length p + i → i < length xs → set (p ++ (xs ++ rest)) j v ≡ p ++ (set xs i v ++ rest)
set_part p xs rest i v j e h =
    ap (λ (k : ℕ). set (p ++ (xs ++ rest)) k v) e ∙ set_behind p (xs ++ rest) i v ∙ ap (λ (x : List ℕ). p ++ x) (set-append_left xs rest i v h)

-- ---- a loop that makes them

-- at a place in the buffer: some counter blocks are made and others left, and c with b for its last byte is the next
pub record Counted (z : ℕ) (start c : List ℕ) (b : ℕ) (d : List ℕ) (at total : ℕ) : Type 0 where
  pub done : ℕ
  pub left : ℕ
  pub all : done + left ≡ total
  pub next : set c (z - 1) b ≡ counter z start done
  pub room : length d ≡ at + left * z
  pub made : take at d ++ counter_blocks z start done left ≡ counter_blocks z start 0 total

module _ (z : ℕ) (start : List ℕ) where
  pub counted_first : length start ≡ z → Bytes start → (d : List ℕ) → length d % z ≡ 0 → Counted z start start (get_or start (z - 1) 0) d 0 (length d / z)
  counted_first l h d w = record {
    done = 0;
    left = length d / z;
    all = zero-add (length d / z);
    next = set-get_or start (z - 1) 0 ∙ sym (counter_zero z start l h);
    room = omega (arith, whole_blocks z (length d) w);
    made = refl;
  }

  module _ (c : List ℕ) (b : ℕ) (d : List ℕ) (at total : ℕ) (k : Counted z start c b d at total) where
    pub counted_block : at < length d → at + z ≤ length d
    counted_block h = block_left k.left z (length d) at k.room h

    pub counted_size : length c ≡ z
    counted_size = sym (length-set c (z - 1) b) ∙ ap length k.next ∙ length_counter z start k.done

    -- the block at the place becomes c
    module _ (end : ℕ) {ys : List ℕ} (e : end ≡ at + z) (h : at < length d) (y : ys ≡ c) where
      block_length : length ys ≡ end - at
      block_length = omega (arith, ap length y, counted_size)

      pub counted_kept : length (take at d ++ (ys ++ drop (end - at) (drop at d))) ≡ length d
      counted_kept = part_kept d ys at end (omega arith) (omega (arith, counted_block h)) block_length

      -- and its last byte b; and then the next one more
      pub counted_next : 0 < z → (c' : List ℕ) (b' : ℕ) → set c' (length c - 1) b' ≡ string (length c) (number (set c (length c - 1) b) + 1)
          → Counted z start c' b' (set (take at d ++ (ys ++ drop (end - at) (drop at d))) (end - 1) b) end total
      unfolding counter_blocks counter
      counted_next pos c' b' n = go k.left k.room k.all k.made
        where
          written : List ℕ
          written = set (take at d ++ (ys ++ drop (end - at) (drop at d))) (end - 1) b

          front : length (take at d) ≡ at
          front = length-take-le at d (omega (arith, counted_block h))

          last_set : written ≡ take at d ++ (set ys (z - 1) b ++ drop (end - at) (drop at d))
          last_set = set_part (take at d) ys (drop (end - at) (drop at d)) (z - 1) b (end - 1) (omega (arith, front)) (omega (arith, block_length))

          go : (j : ℕ) → length d ≡ at + j * z → k.done + j ≡ total → take at d ++ counter_blocks z start k.done j ≡ counter_blocks z start 0 total
              → Counted z start c' b' written end total
          go zero r a w = let x : ⊥ = omega (arith, zero-mul z) in absurd x
          go (suc j) r a w = record {
            done = k.done + 1;
            left = j;
            all = omega arith;
            next =
                ap (λ (i : ℕ). set c' (i - 1) b') (sym counted_size) ∙ n
                ∙ ap (λ (i : ℕ). string i (number (set c (i - 1) b) + 1)) counted_size
                ∙ ap (λ (x : List ℕ). string z (number x + 1)) k.next
                ∙ counter_add z start k.done 1;
            room = omega (arith, length-set (take at d ++ (ys ++ drop (end - at) (drop at d))) (end - 1) b, counted_kept, suc-mul j z);
            made =
                ap (λ (x : List ℕ). take end x ++ counter_blocks z start (k.done + 1) j) last_set
                ∙ part_turn d (set ys (z - 1) b) at end (omega arith) (omega (arith, counted_block h)) (length-set ys (z - 1) b ∙ block_length) (counter_blocks z start (k.done + 1) j)
                ∙ ap (λ (x : List ℕ). take at d ++ (x ++ counter_blocks z start (k.done + 1) j)) (ap (λ (x : List ℕ). set x (z - 1) b) y ∙ k.next)
                ∙ w;
          }

    module _ (pos : 0 < z) (h : length d ≤ at) where
      none : k.left ≡ 0
      none = none_left k.left z (length d) at pos k.room h

      pub counted_all : d ≡ counter_blocks z start 0 total
      unfolding counter_blocks
      counted_all = all_filled d at h (ap (counter_blocks z start k.done) none) k.made

      pub counted_last : set c (z - 1) b ≡ counter z start total
      counted_last = let e : k.done ≡ total = omega (arith, none, k.all) in k.next ∙ ap (counter z start) e

-- ---- the key stream of them

module _ (z : ℕ) (start : List ℕ) where
  pub length_counter_blocks : (v m : ℕ) → length (counter_blocks z start v m) ≡ m * z
  unfolding counter_blocks
  length_counter_blocks v zero = sym (zero-mul z)
  length_counter_blocks v (suc m) =
      length-append (counter z start v) (counter_blocks z start (v + 1) m) ∙ omega (arith, length_counter z start v, length_counter_blocks (v + 1) m, suc-mul m z)

  module _ (e : List ℕ → List ℕ) where
    key_stream_map : (v m : ℕ) → key_stream e z start v m ≡ map_blocks e z m (counter_blocks z start v m)
    unfolding key_stream map_blocks counter_blocks
    key_stream_map v zero = refl
    key_stream_map v (suc m) =
        let t : List ℕ = counter z start v in
        let rest : List ℕ = counter_blocks z start (v + 1) m in
        ap (λ (x : List ℕ). e t ++ x) (key_stream_map (v + 1) m)
        ∙ sym (ap₂ (λ (x y : List ℕ). e x ++ map_blocks e z m y) (take_at t rest z (length_counter z start v)) (drop_at t rest z (length_counter z start v)))

    pub key_stream_each : 0 < z → (v m : ℕ) → key_stream e z start v m ≡ each_block e z (counter_blocks z start v m)
    unfolding each_block
    key_stream_each pos v m =
        key_stream_map v m
        ∙ ap (λ (k : ℕ). map_blocks e z k (counter_blocks z start v m)) (sym (ap (λ (x : ℕ). x / z) (length_counter_blocks v m) ∙ mul-div_cancel m pos))

-- ---- a run by it

-- of whole blocks
pub ctr_each : (e : List ℕ → List ℕ) (z : ℕ) → 0 < z → (start : List ℕ) (v m : ℕ) (p : List ℕ) → length p ≡ m * z
    → xor_bytes (each_block e z (counter_blocks z start v m)) p ≡ ctr e z start v p
unfolding ctr
ctr_each e z pos start v m p l =
    xor_bytes_comm (each_block e z (counter_blocks z start v m)) p
    ∙ ap (xor_bytes p) (sym (key_stream_each z start e pos v m) ∙ ap (key_stream e z start v) (sym (ap (blocks z) l ∙ blocks_whole z m pos)))

-- of m whole blocks of w bytes, and of what is behind them
module _ (e : List ℕ → List ℕ) (z : ℕ) (keeps : Keeps z e) (pos : 0 < z) (start : List ℕ) (m : ℕ) (p : List ℕ) (w : ℕ) (h : w ≡ m * z) where
  pub run_whole : {x : List ℕ} → length p ≤ w → x ≡ ctr e z start 0 (take w p) → x ≡ ctr e z start 0 p
  run_whole l y = y ∙ ap (ctr e z start 0) (take_all w p l)

  pub run_more : {x y : List ℕ} → w ≤ length p → x ≡ ctr e z start 0 (take w p) → y ≡ ctr e z start m (drop w p) → x ++ y ≡ ctr e z start 0 p
  run_more l a b =
      ap₂ ◌++◌ a (b ∙ ap (λ (k : ℕ). ctr e z start k (drop w p)) (sym (zero-add m)))
      ∙ sym (ctr_append e z keeps start pos 0 m (take w p) (drop w p) (length-take-le w p l ∙ h))
      ∙ ap (ctr e z start 0) (take-append-drop w p)

module _ (e : List ℕ → List ℕ) (z : ℕ) where
  -- of at most one block, perhaps of nothing
  pub run_block : 0 < z → (c : List ℕ) → length c ≡ z → Bytes c → (p : List ℕ) {x : List ℕ} → length p ≤ z → x ≡ xor_bytes p (e c) → x ≡ ctr e z c 0 p
  unfolding ctr xor_bytes
  run_block pos c l h [] b y = y
  run_block pos c l h (v ∷ p) b y =
      y ∙ ap (λ (k : List ℕ). xor_bytes (v ∷ p) (e k)) (sym (counter_zero z c l h)) ∙ sym (ctr_one e z pos c 0 (v ∷ p) (omega arith) b)

  -- from a counter block c on
  pub run_counter : (start : List ℕ) (q : ℕ) (p : List ℕ) {c x : List ℕ} → x ≡ ctr e z c 0 p → c ≡ counter z start q → x ≡ ctr e z start q p
  run_counter start q p y k = y ∙ ap (λ (b : List ℕ). ctr e z b 0 p) k ∙ ctr_counter e z start q p

-- what is made of a counter block c and k bytes of whole blocks, as the code has them
pub as_lent : (g : ℕ → List ℕ → ℕ → List ℕ) (z m : ℕ) {k : ℕ} {c x : List ℕ} → 0 < z → length c ≡ z → k ≡ m * z → x ≡ g (length c) c (k / length c) → x ≡ g z c m
as_lent g z m {k} {c} pos l n y = y ∙ ap (λ (i : ℕ). g i c (k / i)) l ∙ ap (g z c) (ap (λ (i : ℕ). i / z) n ∙ mul-div_cancel m pos)
