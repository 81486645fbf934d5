-- Each way out is one of the definition's rules; the block goes through 64 bytes of its own.
-- Assumes nothing.
use mathlib.Core.Path.{◌≡◌, sym, ap, ◌∙◌}
use mathlib.Core.List.{◌++◌}
use Prim.Native.Nat.{◌+◌, ◌-◌, ◌*◌}
use native.Mathlib.Omega.{arith}
use lib.ListN.{length, take, drop, length-append}
use lib.Seq.{take_at, length-take-le}
use Rattle.forms.proofs.Parts.{part_length}
use Rattle.labyrinth.specs.Cipher.{article}
use Rattle.labyrinth.specs.Working.{Size, way}
use Rattle.tape_rules.specs.declared.Tape.{Tape}
use Rattle.tape_rules.specs.Steps.{refuses}
use Rattle.tape_rules.proofs.Cases.{gives, map_size, map_block_short, map_block_refused, map_block_done}
use Rattle.tape.proofs.map_block.Goals as goal
use Rattle.tape.proofs.map_block.Goals.{After-map_used, After-zero_block-block, Else-number-ne0}

pub returns-then-rest-lt65 : goal.returns-then-rest-lt65
returns-then-rest-lt65 c =
    let a = c.args in
    let both = gives a.answer.now
    (map_block_short (way article a.back) a.t a.rest.now c.if-rest-lt65.true ∙ ap (λ (x : Tape). refuses x 8 (length a.rest.now)) (sym c.ended.ensures))
    (c.say_number.ensures.returned, c.say_number.ensures.bytes) in record { returned = both.0; bytes = both.1 }

pub returns-then-number-ne0 : goal.returns-then-number-ne0
returns-then-number-ne0 c =
    let a = c.args in
    let both = gives a.answer.now
    (map_block_refused (way article a.back) a.t a.rest.now c.if-rest-lt65.false c.map_refusal-number.ensures c.if-number-ne0.true)
    (c.say_number-then-number-ne0.ensures.returned, c.say_number-then-number-ne0.ensures.bytes) in record { returned = both.0; bytes = both.1 }

size : (c : Else-number-ne0) → Size c.args.t.key.n
size c =
    let a = c.args in
    map_size a.t (take 64 (drop 1 a.rest.now)) c.map_refusal-number.ensures c.if-number-ne0.false

pub overflow_mul-used : goal.overflow_mul-used
overflow_mul-used c = let s = size (goal.at.overflow_mul-used c).Else-number-ne0 in omega arith

pub overflow_add-end : goal.overflow_add-end
overflow_add-end c = let s = size (goal.at.overflow_add-end c).Else-number-ne0 in omega arith

pub slice_bounds-map_used-end : goal.slice_bounds-map_used-end
slice_bounds-map_used-end c = let s = size (goal.at.slice_bounds-map_used-end c).Else-number-ne0 in omega (arith, c.if-rest-lt65.false)

pub slice_bounds-block-end : goal.slice_bounds-block-end
slice_bounds-block-end c = let s = size (goal.at.slice_bounds-block-end c).Else-number-ne0 in omega arith

block-long : (c : After-zero_block-block) → let n = c.args.t.key.n in length (take (16 * n) c.zero_block-block.result) ≡ 16 * n
block-long c =
    let n = c.args.t.key.n in
    let s = size (goal.at.After-zero_block-block c).Else-number-ne0 in
    length-take-le (16 * n) c.zero_block-block.result (omega (arith, c.zero_block-block.ensures.long))

pub slice_bounds-map_used-end-2 : goal.slice_bounds-map_used-end-2
slice_bounds-map_used-end-2 c = sym (block-long (goal.at.slice_bounds-map_used-end-2 c).After-zero_block-block)

pub map_used-requires : goal.map_used-requires
map_used-requires c =
    let s = size (goal.at.map_used-requires c).Else-number-ne0 in
    let a = c.args in
    let e : 1 + 16 * a.t.key.n - 1 ≡ 16 * a.t.key.n = omega arith in
    (s, part_length a.rest.now 1 (1 + 16 * a.t.key.n) (omega arith) (omega (arith, c.if-rest-lt65.false)) ∙ e, block-long (goal.at.map_used-requires c).After-zero_block-block)

-- the front of the 64 bytes is what came out
mapped-long : (c : After-map_used) → length c.map_used.new.dst ≡ 16 * c.args.t.key.n
mapped-long c = c.map_used.auto.dst ∙ block-long (goal.at.After-map_used c).After-zero_block-block

mapped-front : (c : After-map_used)
    → let n = c.args.t.key.n in take (16 * n) (c.map_used.new.dst ++ drop (16 * n) c.zero_block-block.result) ≡ c.map_used.new.dst
mapped-front c = take_at c.map_used.new.dst _ _ (mapped-long c)

mapped : (c : After-map_used)
    → let a = c.args in
    take (16 * a.t.key.n) (c.map_used.new.dst ++ drop (16 * a.t.key.n) c.zero_block-block.result)
    ≡ way article a.back a.t.key.n a.t.key.words (take (1 + 16 * a.t.key.n - 1) (drop 1 a.rest.now))
mapped c = mapped-front c ∙ c.map_used.ensures

pub slice_bounds-block-end-2 : goal.slice_bounds-block-end-2
slice_bounds-block-end-2 c =
    let n = c.args.t.key.n in
    omega (arith, length-append c.map_used.new.dst (drop (16 * n) c.zero_block-block.result), mapped-long (goal.at.slice_bounds-block-end-2 c).After-map_used)

pub slice_bounds-say_bytes-end : goal.slice_bounds-say_bytes-end
slice_bounds-say_bytes-end c = sym (ap length (mapped-front (goal.at.slice_bounds-say_bytes-end c).After-map_used) ∙ mapped-long (goal.at.slice_bounds-say_bytes-end c).After-map_used)

pub say_bytes-requires : goal.say_bytes-requires
say_bytes-requires c =
    let s = size (goal.at.say_bytes-requires c).Else-number-ne0 in
    omega (arith, ap length (mapped-front (goal.at.say_bytes-requires c).After-map_used), mapped-long (goal.at.say_bytes-requires c).After-map_used, c.requires)

pub returns : goal.returns
returns c =
    let a = c.args in
    let both = gives a.answer.now
    (map_block_done (way article a.back) a.t a.rest.now c.if-rest-lt65.false c.map_refusal-number.ensures c.if-number-ne0.false (mapped (goal.at.returns c).After-map_used))
    (c.say_bytes.ensures.returned, c.say_bytes.ensures.bytes) in record { returned = both.0; bytes = both.1 }
