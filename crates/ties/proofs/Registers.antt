-- The operations on a key register do what document 02, Job 10, says, as Operations has it of the others.
-- Assumes nothing.
use contract.Lifetimes.{Lfts}
use Rattle.promise.specs.Registers.{MakesEmpty, AddsKey, LooksUpKey, AnswersAdding, AnswersLookUp}
use Rattle.promise.proofs.Registers.{answers_adding, answers_look_up}
use Rattle.key_register.proofs.empty as empty-register
use Rattle.key_register.proofs.add as add-key
use Rattle.key_register.proofs.look_up as look-up-key

module _ (κs : Lfts 0) where
  pub makes_empty : (a : _) (z : _) (e : _) → empty-register.Reads.Learnt κs a z e → MakesEmpty z
  makes_empty a z e h = h

  pub adds_key : (a : _) (z : _) (e : _) → add-key.Reads.Learnt κs a z e → AddsKey a.0 a.1.0 a.1.1.0 a.1.1.1.0 z
  adds_key a z e h = h

  pub add_key_answers : (a : _) (z : _) (e : _) → add-key.Reads.Learnt κs a z e → AnswersAdding a.0 a.1.0 a.1.1.0 a.1.1.1.0 z
  add_key_answers a z e h = answers_adding a.0 a.1.0 a.1.1.0 a.1.1.1.0 h

  pub looks_up_key : (a : _) (z : _) (e : _) → look-up-key.Reads.Learnt κs a z e → LooksUpKey a.0 a.1.0 z
  looks_up_key a z e h = h

  pub look_up_key_answers : (a : _) (z : _) (e : _) → look-up-key.Reads.Learnt κs a z e → AnswersLookUp a.0 a.1.0 z
  look_up_key_answers a z e h = answers_look_up a.0 a.1.0 h

-- ---- each function meets its contract

module _ {M : Type 1} where
  pub empty_met : empty-register.Statement.statement M
  empty_met = empty-register.Met.met

  pub add_met : add-key.Statement.statement M
  add_met = add-key.Met.met

  pub look_up_met : look-up-key.Statement.statement M
  look_up_met = look-up-key.Met.met
