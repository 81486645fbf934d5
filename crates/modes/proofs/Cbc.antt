-- Laws of cipher block chaining over any block maps: what it keeps, that opening undoes sealing and sealing opening, each single block, and
-- a run in pieces.
-- Assumes nothing.
use mathlib.Core.Path.{◌≡◌, refl, sym, ap, ap₂, ◌∙◌, fun_ext}
use mathlib.Core.List.{List, [], ◌∷◌, ◌++◌, append_assoc}
use Prim.Native.Nat.{ℕ, zero, suc, ◌+◌, ◌-◌, ◌*◌, ◌/◌, ◌%◌, ◌≤◌, ◌<◌}
use native.Mathlib.Nat.{suc-mul, zero-mul, suc-add, zero-add, div-mul-le_self, mul-div_cancel, mod_self}
use native.Mathlib.Omega.{arith}
use lib.Bits.{bit_xor}
use lib.ListN.{length, take, drop, length-append, length-drop, take-append-drop}
use lib.Seq.{take_at, drop_at, take-append-le, drop-append-le, length-take-le}
use Rattle.forms.specs.Strings.{xor_bytes, block}
use Rattle.forms.specs.Mapped.{map_blocks, each_block, chain_blocks}
use Rattle.forms.proofs.Bytes.{Bytes, take_bytes, drop_bytes, append_bytes}
use Rattle.forms.proofs.Strings.{nil_xor_bytes, length_xor_bytes, xor_bytes_append, bytes_xor_bytes, xor_bytes_undo, whole_blocks, blocks_more, no_block, first_within, length_first, rest_within, length_rest, block_zero, block_suc, block_first, block_next, whole_rest, each_block_parts, length_each_block}
use Rattle.modes.specs.Cbc.{seal_blocks, open_blocks, cbc_seal, cbc_open, before}
use Rattle.modes.proofs.Maps.{Keeps, Undone}

-- ---- block maps that agree

module _ (e f : List ℕ → List ℕ) (h : (b : List ℕ) → e b ≡ f b) where
  pub seal_cong : (z : ℕ) (start p : List ℕ) → cbc_seal e z start p ≡ cbc_seal f z start p
  seal_cong z start p = ap (λ (g : List ℕ → List ℕ). cbc_seal g z start p) (fun_ext h)

  pub open_cong : (z : ℕ) (start s : List ℕ) → cbc_open e z start s ≡ cbc_open f z start s
  open_cong z start s = ap (λ (g : List ℕ → List ℕ). cbc_open g z start s) (fun_ext h)

  pub seal_blocks_cong : (z m : ℕ) (c p : List ℕ) → seal_blocks e z m c p ≡ seal_blocks f z m c p
  seal_blocks_cong z m c p = ap (λ (g : List ℕ → List ℕ). seal_blocks g z m c p) (fun_ext h)

  pub open_blocks_cong : (z m : ℕ) (c s : List ℕ) → open_blocks e z m c s ≡ open_blocks f z m c s
  open_blocks_cong z m c s = ap (λ (g : List ℕ → List ℕ). open_blocks g z m c s) (fun_ext h)

-- ---- sealing is chaining: each block is e of it XOR what the one before it became

module _ (e : List ℕ → List ℕ) (z : ℕ) where
  seal_blocks_chain : (m : ℕ) (c p : List ℕ) → seal_blocks e z m c p ≡ chain_blocks e z m c p
  unfolding seal_blocks chain_blocks
  seal_blocks_chain zero c p = refl
  seal_blocks_chain (suc m) c p = let d : List ℕ = e (xor_bytes (take z p) c) in ap (λ (x : List ℕ). d ++ x) (seal_blocks_chain m d (drop z p))

  pub cbc_seal_chain : (start p : List ℕ) → cbc_seal e z start p ≡ chain_blocks e z (length p / z) start p
  unfolding cbc_seal
  cbc_seal_chain start p = seal_blocks_chain (length p / z) start p

-- ---- lengths and bytes

module _ (e : List ℕ → List ℕ) (z : ℕ) (k : Keeps z e) where
  pub length_seal_blocks : (m : ℕ) (c p : List ℕ) → length (seal_blocks e z m c p) ≡ m * z
  unfolding seal_blocks
  length_seal_blocks zero c p = sym (zero-mul z)
  length_seal_blocks (suc m) c p =
      let d : List ℕ = e (xor_bytes (take z p) c) in
      length-append d (seal_blocks e z m d (drop z p)) ∙ omega (arith, k.len (xor_bytes (take z p) c), length_seal_blocks m d (drop z p), suc-mul m z)

  pub bytes_seal_blocks : (m : ℕ) (c p : List ℕ) → Bytes (seal_blocks e z m c p)
  unfolding seal_blocks
  bytes_seal_blocks zero c p i = omega arith
  bytes_seal_blocks (suc m) c p i =
      let d : List ℕ = e (xor_bytes (take z p) c) in
      append_bytes d (seal_blocks e z m d (drop z p)) (k.bytes (xor_bytes (take z p) c)) (bytes_seal_blocks m d (drop z p)) i

  pub length_seal : (start p : List ℕ) → length p % z ≡ 0 → length (cbc_seal e z start p) ≡ length p
  unfolding cbc_seal
  length_seal start p w = length_seal_blocks (length p / z) start p ∙ sym (whole_blocks z (length p) w)

  pub bytes_seal : (start p : List ℕ) → Bytes (cbc_seal e z start p)
  unfolding cbc_seal
  bytes_seal start p = bytes_seal_blocks (length p / z) start p

module _ (u : List ℕ → List ℕ) (z : ℕ) (k : Keeps z u) where
  -- one opened block
  length_opened : (b c : List ℕ) → length c ≡ z → length (xor_bytes (u b) c) ≡ z
  length_opened b c e = length_xor_bytes (u b) c (omega (arith, k.len b)) ∙ k.len b

  pub length_open_blocks : (m : ℕ) (c s : List ℕ) → length c ≡ z → m * z ≤ length s → length (open_blocks u z m c s) ≡ m * z
  unfolding open_blocks
  length_open_blocks zero c s e h = sym (zero-mul z)
  length_open_blocks (suc m) c s e h =
      length-append (xor_bytes (u (take z s)) c) (open_blocks u z m (take z s) (drop z s))
      ∙ omega (arith, length_opened (take z s) c e, length_open_blocks m (take z s) (drop z s) (length_first z m s h) (rest_within z m s h), suc-mul m z)

  pub bytes_open_blocks : (m : ℕ) (c s : List ℕ) → Bytes c → Bytes s → Bytes (open_blocks u z m c s)
  unfolding open_blocks
  bytes_open_blocks zero c s hc hs i = omega arith
  bytes_open_blocks (suc m) c s hc hs i =
      append_bytes (xor_bytes (u (take z s)) c) (open_blocks u z m (take z s) (drop z s)) (bytes_xor_bytes (u (take z s)) c (k.bytes (take z s)) hc)
      (bytes_open_blocks m (take z s) (drop z s) (take_bytes z s hs) (drop_bytes z s hs)) i

  pub length_open : (start s : List ℕ) → length start ≡ z → length s % z ≡ 0 → length (cbc_open u z start s) ≡ length s
  unfolding cbc_open
  length_open start s e w = length_open_blocks (length s / z) start s e (div-mul-le_self (length s) z) ∙ sym (whole_blocks z (length s) w)

  pub bytes_open : (start s : List ℕ) → Bytes start → Bytes s → Bytes (cbc_open u z start s)
  unfolding cbc_open
  bytes_open start s hc hs = bytes_open_blocks (length s / z) start s hc hs

-- ---- there and back

module _ (e u : List ℕ → List ℕ) (z : ℕ) where
  pub open_seal_blocks : Keeps z e → Undone z e u → (m : ℕ) (c p : List ℕ) → length c ≡ z → Bytes c → length p ≡ m * z → Bytes p
      → open_blocks u z m c (seal_blocks e z m c p) ≡ p
  unfolding seal_blocks open_blocks
  open_seal_blocks k b zero c p lc hc lp hp = sym (no_block z p lp)
  open_seal_blocks k b (suc m) c p lc hc lp hp =
      let x : List ℕ = xor_bytes (take z p) c in
      let d : List ℕ = e x in
      let rest : List ℕ = seal_blocks e z m d (drop z p) in
      let lf : length (take z p) ≡ z = length_first z m p (omega arith) in
      let lx : length x ≡ z = length_xor_bytes (take z p) c (omega arith) ∙ lf in
      ap₂ (λ (a r : List ℕ). xor_bytes (u a) c ++ open_blocks u z m a r) (take_at d rest z (k.len x)) (drop_at d rest z (k.len x))
      ∙ ap₂ ◌++◌ (ap (λ (a : List ℕ). xor_bytes a c) (b.back x lx (bytes_xor_bytes (take z p) c (take_bytes z p hp) hc)) ∙ xor_bytes_undo (take z p) c (omega arith))
      (open_seal_blocks k b m d (drop z p) (k.len x) (k.bytes x) (length_rest z m p lp) (drop_bytes z p hp))
      ∙ take-append-drop z p

  pub seal_open_blocks : Keeps z u → Undone z u e → (m : ℕ) (c s : List ℕ) → length c ≡ z → length s ≡ m * z → Bytes s
      → seal_blocks e z m c (open_blocks u z m c s) ≡ s
  unfolding seal_blocks open_blocks
  seal_open_blocks k b zero c s lc ls hs = sym (no_block z s ls)
  seal_open_blocks k b (suc m) c s lc ls hs =
      let f : List ℕ = take z s in
      let q : List ℕ = xor_bytes (u f) c in
      let rest : List ℕ = open_blocks u z m f (drop z s) in
      let lf : length f ≡ z = length_first z m s (omega arith) in
      let lq : length q ≡ z = length_opened u z k f c lc in
      let again : e (xor_bytes q c) ≡ f = ap e (xor_bytes_undo (u f) c (omega (arith, k.len f))) ∙ b.back f lf (take_bytes z s hs) in
      ap₂ (λ (a r : List ℕ). e (xor_bytes a c) ++ seal_blocks e z m (e (xor_bytes a c)) r) (take_at q rest z lq) (drop_at q rest z lq)
      ∙ ap (λ (d : List ℕ). d ++ seal_blocks e z m d rest) again
      ∙ ap (λ (r : List ℕ). f ++ r) (seal_open_blocks k b m f (drop z s) lf (length_rest z m s ls) (drop_bytes z s hs))
      ∙ take-append-drop z s

  -- what was sealed is opened to the source
  pub open_seal : Keeps z e → Undone z e u → (start p : List ℕ) → length start ≡ z → Bytes start → length p % z ≡ 0 → Bytes p
      → cbc_open u z start (cbc_seal e z start p) ≡ p
  unfolding cbc_seal cbc_open
  open_seal k b start p lc hc w hp =
      ap (λ (x : ℕ). open_blocks u z (x / z) start (cbc_seal e z start p)) (length_seal e z k start p w)
      ∙ open_seal_blocks k b (length p / z) start p lc hc (whole_blocks z (length p) w) hp

  -- what was opened is sealed to the sealed run
  pub seal_open : Keeps z u → Undone z u e → (start s : List ℕ) → length start ≡ z → length s % z ≡ 0 → Bytes s
      → cbc_seal e z start (cbc_open u z start s) ≡ s
  unfolding cbc_seal cbc_open
  seal_open k b start s lc w hs =
      ap (λ (x : ℕ). seal_blocks e z (x / z) start (cbc_open u z start s)) (length_open u z k start s lc w)
      ∙ seal_open_blocks k b (length s / z) start s lc (whole_blocks z (length s) w) hs

-- ---- single blocks

-- the block before block i + 1 of a run is the block before block i of the rest, which the first block begins
before_rest : (z : ℕ) (c s : List ℕ) (i : ℕ) → before z c s (suc i) ≡ before z (take z s) (drop z s) i
unfolding before
before_rest z c s zero = block_zero z s
before_rest z c s (suc i) = block_suc z i s

-- where the first block stands apart
pub before_next : (z : ℕ) (d rest : List ℕ) → length d ≡ z → (c : List ℕ) (i : ℕ) → before z c (d ++ rest) (suc i) ≡ before z d rest i
before_next z d rest e c i = before_rest z c (d ++ rest) i ∙ ap₂ (λ (x y : List ℕ). before z x y i) (take_at d rest z e) (drop_at d rest z e)

module _ (e : List ℕ → List ℕ) (z : ℕ) (k : Keeps z e) where
  pub seal_blocks_block : (m : ℕ) (c p : List ℕ) (i : ℕ) → i < m
      → block z i (seal_blocks e z m c p) ≡ e (xor_bytes (block z i p) (before z c (seal_blocks e z m c p) i))
  unfolding seal_blocks before
  seal_blocks_block zero c p i h = let w : ⊥ = omega arith in absurd w
  seal_blocks_block (suc m) c p zero h =
      block_first z (e (xor_bytes (take z p) c)) _ (k.len (xor_bytes (take z p) c)) ∙ ap (λ (x : List ℕ). e (xor_bytes x c)) (sym (block_zero z p))
  seal_blocks_block (suc m) c p (suc i) h =
      let d : List ℕ = e (xor_bytes (take z p) c) in
      let rest : List ℕ = seal_blocks e z m d (drop z p) in
      let l : length d ≡ z = k.len (xor_bytes (take z p) c) in
      block_next z d rest l i ∙ seal_blocks_block m d (drop z p) i (omega arith)
      ∙ ap₂ (λ (x y : List ℕ). e (xor_bytes x y)) (sym (block_suc z i p)) (sym (before_next z d rest l c i))

  -- C_i is e of P_i XOR C_(i-1)
  pub seal_block : (start p : List ℕ) (i : ℕ) → i < length p / z
      → block z i (cbc_seal e z start p) ≡ e (xor_bytes (block z i p) (before z start (cbc_seal e z start p) i))
  unfolding cbc_seal
  seal_block start p i h = seal_blocks_block (length p / z) start p i h

module _ (u : List ℕ → List ℕ) (z : ℕ) (k : Keeps z u) where
  pub open_blocks_block : (m : ℕ) (c s : List ℕ) (i : ℕ) → length c ≡ z → m * z ≤ length s → i < m
      → block z i (open_blocks u z m c s) ≡ xor_bytes (u (block z i s)) (before z c s i)
  unfolding open_blocks before
  open_blocks_block zero c s i e w h = let x : ⊥ = omega arith in absurd x
  open_blocks_block (suc m) c s zero e w h =
      block_first z (xor_bytes (u (take z s)) c) _ (length_opened u z k (take z s) c e) ∙ ap (λ (x : List ℕ). xor_bytes (u x) c) (sym (block_zero z s))
  open_blocks_block (suc m) c s (suc i) e w h =
      block_next z (xor_bytes (u (take z s)) c) _ (length_opened u z k (take z s) c e) i
      ∙ open_blocks_block m (take z s) (drop z s) i (length_first z m s w) (rest_within z m s w) (omega arith)
      ∙ ap₂ (λ (x y : List ℕ). xor_bytes (u x) y) (sym (block_suc z i s)) (sym (before_rest z c s i))

  -- P_i is u of C_i, XOR C_(i-1)
  pub open_block : (start s : List ℕ) (i : ℕ) → length start ≡ z → i < length s / z
      → block z i (cbc_open u z start s) ≡ xor_bytes (u (block z i s)) (before z start s i)
  unfolding cbc_open
  open_block start s i e h = open_blocks_block (length s / z) start s i e (div-mul-le_self (length s) z) h

-- ---- a run in pieces

-- m blocks, and more behind them
module _ (z m : ℕ) (a b : List ℕ) where
  take_piece : length a ≡ suc m * z → take z (a ++ b) ≡ take z a
  take_piece l = take-append-le z a b (first_within z m a (omega arith))

  drop_piece : length a ≡ suc m * z → drop z (a ++ b) ≡ drop z a ++ b
  drop_piece l = drop-append-le z a b (first_within z m a (omega arith))

  count_pieces : 0 < z → length a ≡ m * z → length (a ++ b) / z ≡ m + length b / z
  count_pieces h l = ap (λ (x : ℕ). x / z) (length-append a b ∙ ap (λ (x : ℕ). x + length b) l) ∙ blocks_more z m (length b) h

count_piece : (z m : ℕ) (a : List ℕ) → 0 < z → length a ≡ m * z → m ≡ length a / z
count_piece z m a h l = sym (ap (λ (x : ℕ). x / z) l ∙ mul-div_cancel m h)

module _ (e : List ℕ → List ℕ) (z : ℕ) (k : Keeps z e) where
  pub seal_blocks_append : (m n : ℕ) (c a b : List ℕ) → length a ≡ m * z
      → seal_blocks e z (m + n) c (a ++ b) ≡ seal_blocks e z m c a ++ seal_blocks e z n (before z c (seal_blocks e z m c a) m) b
  unfolding seal_blocks before
  seal_blocks_append zero n c a b l = ap₂ (λ (j : ℕ) (x : List ℕ). seal_blocks e z j c (x ++ b)) (zero-add n) (no_block z a l)
  seal_blocks_append (suc m) n c a b l =
      let d : List ℕ = e (xor_bytes (take z a) c) in
      let rest : List ℕ = seal_blocks e z m d (drop z a) in
      ap (λ (j : ℕ). seal_blocks e z j c (a ++ b)) (suc-add m n)
      ∙ ap₂ (λ (x y : List ℕ). e (xor_bytes x c) ++ seal_blocks e z (m + n) (e (xor_bytes x c)) y) (take_piece z m a b l) (drop_piece z m a b l)
      ∙ ap (λ (x : List ℕ). d ++ x) (seal_blocks_append m n d (drop z a) b (length_rest z m a l))
      ∙ ap (λ (x : List ℕ). d ++ (rest ++ seal_blocks e z n x b)) (sym (before_next z d rest (k.len (xor_bytes (take z a) c)) c m))
      ∙ sym (append_assoc d rest _)

  pub seal_append : 0 < z → (m : ℕ) (start a b : List ℕ) → length a ≡ m * z
      → cbc_seal e z start (a ++ b) ≡ cbc_seal e z start a ++ cbc_seal e z (before z start (cbc_seal e z start a) m) b
  unfolding cbc_seal
  seal_append h m start a b l =
      ap (λ (x : ℕ). seal_blocks e z x start (a ++ b)) (count_pieces z m a b h l)
      ∙ seal_blocks_append m (length b / z) start a b l
      ∙ ap (λ (x : ℕ). seal_blocks e z x start a ++ seal_blocks e z (length b / z) (before z start (seal_blocks e z x start a) m) b) (count_piece z m a h l)

module _ (u : List ℕ → List ℕ) (z : ℕ) where
  pub open_blocks_append : (m n : ℕ) (c a b : List ℕ) → length a ≡ m * z
      → open_blocks u z (m + n) c (a ++ b) ≡ open_blocks u z m c a ++ open_blocks u z n (before z c a m) b
  unfolding open_blocks before
  open_blocks_append zero n c a b l = ap₂ (λ (j : ℕ) (x : List ℕ). open_blocks u z j c (x ++ b)) (zero-add n) (no_block z a l)
  open_blocks_append (suc m) n c a b l =
      let q : List ℕ = xor_bytes (u (take z a)) c in
      let rest : List ℕ = open_blocks u z m (take z a) (drop z a) in
      ap (λ (j : ℕ). open_blocks u z j c (a ++ b)) (suc-add m n)
      ∙ ap₂ (λ (x y : List ℕ). xor_bytes (u x) c ++ open_blocks u z (m + n) x y) (take_piece z m a b l) (drop_piece z m a b l)
      ∙ ap (λ (x : List ℕ). q ++ x) (open_blocks_append m n (take z a) (drop z a) b (length_rest z m a l))
      ∙ ap (λ (x : List ℕ). q ++ (rest ++ open_blocks u z n x b)) (sym (before_rest z c a m))
      ∙ sym (append_assoc q rest _)

  pub open_append : 0 < z → (m : ℕ) (start a b : List ℕ) → length a ≡ m * z
      → cbc_open u z start (a ++ b) ≡ cbc_open u z start a ++ cbc_open u z (before z start a m) b
  unfolding cbc_open
  open_append h m start a b l =
      ap (λ (x : ℕ). open_blocks u z x start (a ++ b)) (count_pieces z m a b h l)
      ∙ open_blocks_append m (length b / z) start a b l
      ∙ ap (λ (x : ℕ). open_blocks u z x start a ++ open_blocks u z (length b / z) (before z start a m) b) (count_piece z m a h l)

-- ---- every block at once

-- the XOR with a longer string is that with its front
xor_bytes_front : (xs ys : List ℕ) → xor_bytes xs ys ≡ xor_bytes xs (take (length xs) ys)
unfolding xor_bytes
xor_bytes_front [] ys = refl
xor_bytes_front (x ∷ xs) [] = refl
xor_bytes_front (x ∷ xs) (y ∷ ys) = ap (◌∷◌ (bit_xor x y)) (xor_bytes_front xs ys)

module _ (u : List ℕ → List ℕ) (z : ℕ) (k : Keeps z u) where
  open_blocks_each : (m : ℕ) (c s : List ℕ) → length c ≡ z → m * z ≤ length s → open_blocks u z m c s ≡ xor_bytes (map_blocks u z m s) (c ++ s)
  unfolding open_blocks map_blocks
  open_blocks_each zero c s e h = sym (nil_xor_bytes (c ++ s))
  open_blocks_each (suc m) c s e h =
      let f : List ℕ = take z s in
      let rest : List ℕ = map_blocks u z m (drop z s) in
      let l : length (u f) ≡ length c = k.len f ∙ sym e in
      ap (λ (x : List ℕ). xor_bytes (u f) c ++ x) (open_blocks_each m f (drop z s) (length_first z m s h) (rest_within z m s h) ∙ ap (xor_bytes rest) (take-append-drop z s))
      ∙ sym (xor_bytes_append (u f ++ rest) c s ∙ ap₂ (λ (x y : List ℕ). xor_bytes x c ++ xor_bytes y s) (take_at (u f) rest (length c) l) (drop_at (u f) rest (length c) l))

  -- opening is u of every block, XOR the run one block back
  pub cbc_open_each : (c s : List ℕ) → length c ≡ z → cbc_open u z c s ≡ xor_bytes (each_block u z s) (c ++ s)
  unfolding cbc_open each_block
  cbc_open_each c s e = open_blocks_each (length s / z) c s e (div-mul-le_self (length s) z)

  -- so in two pieces: the first block after the start block, and the others after the blocks before them
  module _ (pos : 0 < z) (c s : List ℕ) (e : length c ≡ z) (w : length s % z ≡ 0) (h : length c ≤ length s) where
    one_whole : length c % z ≡ 0
    one_whole = ap (λ (i : ℕ). i % z) e ∙ mod_self z

    pub first_whole : length (take (length c) s) % z ≡ 0
    first_whole = ap (λ (i : ℕ). i % z) (length-take-le (length c) s h) ∙ one_whole

    pub rest_whole : length (drop (length c) s) % z ≡ 0
    rest_whole = ap (λ (i : ℕ). i % z) (length-drop (length c) s) ∙ whole_rest z (length c) (length s) h one_whole w

    pub cbc_open_pieces : cbc_open u z c s ≡ xor_bytes (each_block u z (take (length c) s)) c ++ xor_bytes (each_block u z (drop (length c) s)) (take (length s - length c) s)
    cbc_open_pieces =
        let a : List ℕ = each_block u z (take (length c) s) in
        let b : List ℕ = each_block u z (drop (length c) s) in
        let la : length a ≡ length c = length_each_block u z k.len (take (length c) s) first_whole ∙ length-take-le (length c) s h in
        let lb : length b ≡ length s - length c = length_each_block u z k.len (drop (length c) s) rest_whole ∙ length-drop (length c) s in
        cbc_open_each c s e
        ∙ ap (λ (x : List ℕ). xor_bytes x (c ++ s)) (each_block_parts u z pos (length c) s one_whole h)
        ∙ xor_bytes_append (a ++ b) c s
        ∙ ap₂ (λ (x y : List ℕ). xor_bytes x c ++ xor_bytes y s) (take_at a b (length c) la) (drop_at a b (length c) la)
        ∙ ap (λ (x : List ℕ). xor_bytes a c ++ x) (xor_bytes_front b s ∙ ap (λ (i : ℕ). xor_bytes b (take i s)) lb)
