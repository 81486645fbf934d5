-- 'After any calls from an empty register' (document 02, Job 10): lists of calls, refused ones included.
-- Assumes nothing.
use Rattle.std.specs.Prelude.{ℕ, List, [], ◌∷◌}
use Rattle.registers.specs.declared.Entry.{Entry}
use Rattle.registers.specs.declared.Register.{Register}
use Rattle.registers.specs.Registers.{empty, held, add}

-- a call: a key is to be added, or a number is looked up
pub data Call : Type 0 where
  adds : (number replaces : ℕ) (key : List ℕ) → Call
  looks_up : (number : ℕ) → Call

-- the register after a call: what adding hands back, refused or not; a look-up changes nothing
unfoldable pub after : Register → Call → Register
after r (adds number replaces key) = (add r number replaces key).register
after r (looks_up number) = r

-- after calls, one after another
unfoldable pub after_all : Register → List Call → Register
after_all r [] = r
after_all r (c ∷ calls) = after_all (after r c) calls

-- 'after any calls from an empty register': the register then, and its entries
unfoldable pub reached : List Call → Register
reached calls = after_all empty calls

unfoldable pub entries : List Call → List Entry
entries calls = held (reached calls)
