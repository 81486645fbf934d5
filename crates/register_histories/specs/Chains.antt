-- Chains in plain terms, and what is so of every register that calls from an empty one reach (document 02, Job 10).
-- Assumes nothing.
use Rattle.std.specs.Prelude.{◌≡◌, true, List, ℕ, ◌<◌, length}
use Rattle.forms.specs.Lists.{has}
use Rattle.registers.specs.declared.Entry.{Entry}
use Rattle.registers.specs.Registers.{number_at, replaces_at, chain}

-- 'the first entry with the number'
pub record FirstWith (es : List Entry) (number at : ℕ) : Type 0 where
  pub within : at < length es
  pub named : number_at es at ≡ number
  pub first : (k : ℕ) → k < at → number_at es k ≡ number → ⊥

-- 'the first later entry that replaces the one reached': y is it for x. 0 matches none, so nothing replaces an entry with number 0
pub record NextOf (es : List Entry) (x y : ℕ) : Type 0 where
  pub later : x < y
  pub within : y < length es
  pub some : number_at es x ≡ 0 → ⊥
  pub replaces : replaces_at es y ≡ number_at es x
  pub first : (k : ℕ) → x < k → k < y → replaces_at es k ≡ number_at es x → ⊥

-- an entry replacing none, where a chain starts
pub record Root (es : List Entry) (x : ℕ) : Type 0 where
  pub within : x < length es
  pub replaces_none : replaces_at es x ≡ 0

-- a place is in the chain from a root
pub record InChainFrom (es : List Entry) (x root : ℕ) : Type 0 where
  pub starts : Root es root
  pub member : has x (chain es root) ≡ true

-- an earlier entry has the number that the one at j replaces
pub record ReplacesEarlier (es : List Entry) (j : ℕ) : Type 0 where
  pub at : ℕ
  pub earlier : at < j
  pub named : number_at es at ≡ replaces_at es j

-- numbers are present once and none is 0; a replaced number is present and stands earlier; none is named as replaced twice
pub record Sound (es : List Entry) : Type 0 where
  pub some : (i : ℕ) → i < length es → number_at es i ≡ 0 → ⊥
  pub once : (i j : ℕ) → i < length es → j < length es → number_at es i ≡ number_at es j → i ≡ j
  pub earlier : (j : ℕ) → j < length es → (replaces_at es j ≡ 0 → ⊥) → ReplacesEarlier es j
  pub replaced_once : (i j : ℕ) → i < length es → j < length es → (replaces_at es i ≡ 0 → ⊥) → replaces_at es i ≡ replaces_at es j → i ≡ j

-- a number is replaced by another, at once or in several steps: by number alone, whatever the order of the entries
pub data ReplacedBy (es : List Entry) : ℕ → ℕ → Type 0 where
  at_once : (j : ℕ) → j < length es → (replaces_at es j ≡ 0 → ⊥) → ReplacedBy es (replaces_at es j) (number_at es j)
  and_then : {a b c : ℕ} → ReplacedBy es a b → ReplacedBy es b c → ReplacedBy es a c
