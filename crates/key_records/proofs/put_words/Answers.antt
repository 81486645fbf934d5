-- After j turns the bytes of the words below j stand behind n and the set.
-- Assumes nothing.
use mathlib.Core.Path.{◌≡◌, refl, ap, ◌∙◌}
use mathlib.Core.List.{List, ◌++◌, append-nil}
use Prim.Native.Nat.{ℕ, ◌+◌, ◌*◌}
use native.Mathlib.Omega.{arith}
use lib.ListN.{take, drop_of_length-le}
use Rattle.forms.specs.Lists.{tabulate}
use Rattle.forms.specs.Words.{bytes}
use Rattle.forms.proofs.Buffers.{put, put_none, put_bytes}
use Rattle.buffers.proofs.Words.{with_word_lem}
use Rattle.key_records.proofs.put_words.Goals as goal

pub loop-j-init : goal.loop-j-init
unfolding bytes tabulate
loop-j-init c = put_none c.args.d.now 16

pub loop-j-preserved : goal.loop-j-preserved
loop-j-preserved c =
    let v = c.loop-j in
    c.store_word.ensures
    ∙ with_word_lem (16 + 8 * v.j) _ v.d (omega (arith, c.requires))
    ∙ put_bytes c.args.ws.now c.args.d.now v.d 16 v.j _ (omega (arith, c.requires)) refl v.invariant

pub returns : goal.returns
returns c =
    let v = c.loop-j in
    let d = c.args.d.now in
    let e : v.j ≡ 32 = omega arith in
    v.invariant
    ∙ ap (λ (m : ℕ). put 16 (8 * m) (bytes m c.args.ws.now) d) e
    ∙ ap (λ (x : List ℕ). take 16 d ++ (bytes 32 c.args.ws.now ++ x)) (drop_of_length-le d {i = 272} (omega (arith, c.requires)))
    ∙ ap (λ (x : List ℕ). take 16 d ++ x) (append-nil (bytes 32 c.args.ws.now))
