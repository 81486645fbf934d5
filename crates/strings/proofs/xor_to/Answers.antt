-- Two words are laid, or byte after byte: the first i bytes are the XOR, and the others still stand.
-- Assumes nothing.
use mathlib.Core.Path.{sym}
use native.Mathlib.Omega.{arith}
use Rattle.forms.specs.Strings.{xor_bytes}
use Rattle.forms.proofs.Strings.{length_shorter, get_or_xor_bytes}
use Rattle.strings.proofs.Laying.{lay_next, lay_all}
use Rattle.strings.proofs.xor_to.Goals as goal

pub returns-then-m-eq16 : goal.returns-then-m-eq16
returns-then-m-eq16 c =
    let g = c.args in
    lay_all (xor_bytes g.a.now g.b.now) g.d.now 16 (omega (arith, length_shorter g.a.now g.b.now)) c.xor_two_words.ensures

pub loop-i-preserved : goal.loop-i-preserved
loop-i-preserved c =
    let a = c.args.a.now in
    let b = c.args.b.now in
    let i = c.loop-i.i in
    lay_next (xor_bytes a b) c.args.d.now i (omega (arith, length_shorter a b)) (omega arith) c.loop-i.invariant (sym (get_or_xor_bytes a b i (omega arith) (omega arith)))

pub returns : goal.returns
returns c =
    let g = c.args in
    lay_all (xor_bytes g.a.now g.b.now) g.d.now c.loop-i.i (omega (arith, length_shorter g.a.now g.b.now)) c.loop-i.invariant
