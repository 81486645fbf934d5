-- Each way out is one of the definition's rules; the word goes through eight bytes of its own.
-- Assumes nothing.
use mathlib.Core.Path.{◌≡◌, sym, ap, ◌∙◌}
use mathlib.Core.List.{List}
use Prim.Native.Nat.{ℕ}
use native.Mathlib.Omega.{arith}
use lib.ListN.{length, take, drop, replicate}
use Rattle.forms.specs.Words.{words, bytes}
use Rattle.forms.proofs.Parts.{part_length}
use Rattle.strings.proofs.Laying.{laid_whole}
use Rattle.field.specs.Mixing.{mix}
use Rattle.field.specs.Published.{row}
use Rattle.labyrinth.specs.Blocks.{each}
use Rattle.tape_rules.specs.declared.Tape.{Tape}
use Rattle.tape_rules.specs.Steps.{refuses}
use Rattle.tape_rules.proofs.Cases.{gives, mix_word_short, mix_word_done}
use Rattle.tape.proofs.mix_word.Goals as goal

pub returns-then-rest-lt9 : goal.returns-then-rest-lt9
returns-then-rest-lt9 c =
    let a = c.args in
    let both = gives a.answer.now
    (mix_word_short a.t a.rest.now c.if-rest-lt9.true ∙ ap (λ (x : Tape). refuses x 8 (length a.rest.now)) (sym c.ended.ensures))
    (c.say_number.ensures.returned, c.say_number.ensures.bytes) in record { returned = both.0; bytes = both.1 }

pub returns : goal.returns
returns c =
    let a = c.args in
    let long = c.if-rest-lt9.false in
    let s = take 8 (drop 1 a.rest.now) in
    let copied : c.copy_into.new.d ≡ s = c.copy_into.ensures ∙ laid_whole s (replicate 8 0) (part_length a.rest.now 1 9 (omega arith) long) in
    let both = gives a.answer.now
    (mix_word_done a.t a.rest.now long (c.mix_bytes-mixed.ensures ∙ ap (λ (x : List ℕ). bytes 1 (each 1 (mix row) (words 1 x))) copied))
    (c.say_bytes.ensures.returned, c.say_bytes.ensures.bytes) in record { returned = both.0; bytes = both.1 }
