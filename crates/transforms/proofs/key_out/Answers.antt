-- After j turns the bytes of the words below j have gone out.
-- Assumes nothing.
use Rattle.std.proofs.Common.{◌≡◌, ℕ, ◌+◌, ◌-◌, ◌*◌, ◌%◌, ◌^◌, ◌<◌, get_or, refl, ap, ◌∙◌, mod-eq_of_lt, arith}
use Rattle.forms.specs.Lists.{tabulate}
use Rattle.forms.specs.Words.{rotl, each_byte, bytes}
use Rattle.forms.proofs.Buffers.{put, put_none, put_bytes}
use Rattle.buffers.proofs.Words.{with_word_lem}
use Rattle.field.specs.Substitution.{sub}
use Rattle.labyrinth.specs.Blocks.{minus}
use Rattle.labyrinth.proofs.Ends.{out_half, get_or_out_half}
use Rattle.transforms.proofs.key_out.Goals as goal

pub loop-j-init : goal.loop-j-init
unfolding bytes tabulate
loop-j-init c = let a = c.args in (refl, put_none a.dst.now a.at)

pub loop-j-preserved : goal.loop-j-preserved
loop-j-preserved c =
    let v = c.loop-j in
    let a = c.args in
    let S = sub a.u.now in
    let k : ℕ = get_or a.ks.now (a.k + v.j) 0 in
    let h : a.turn < 64 = omega arith in
    let less : (w : ℕ) → w + (2 ^ 64 - k) ≡ w + 2 ^ 64 - k = λ w. omega (arith, c.fits-ks (a.k + v.j)) in
    let w = c.substitute_bytes-w.ensures ∙ ap (each_byte S) (c.rotate_left.ensures ∙ ap (rotl (get_or a.x.now v.j 0)) (mod-eq_of_lt h)) in (
      c.store_word.auto.d ∙ v.invariant.0,
      c.store_word.ensures
          ∙ with_word_lem (a.at + 8 * v.j) _ v.dst (omega arith)
          ∙ put_bytes (out_half S a.n a.ks.now a.k a.turn a.x.now) a.dst.now v.dst a.at v.j _ (omega arith)
          (ap (λ (x : ℕ). x % 2 ^ 64) (less _) ∙ ap (λ (x : ℕ). minus x k) w
          ∙ get_or_out_half S a.n a.ks.now a.k a.turn a.x.now v.j (omega arith))
          v.invariant.1,
    )

pub returns : goal.returns
returns c =
    let v = c.loop-j in
    let a = c.args in
    let e : v.j ≡ a.n = omega arith in
    v.invariant.1 ∙ ap (λ (m : ℕ). put a.at (8 * m) (bytes m (out_half (sub a.u.now) a.n a.ks.now a.k a.turn a.x.now)) a.dst.now) e
