use Rattle.std.proofs.Common.{◌≡◌, arith, refl, rules}
use Rattle.std.proofs.lemmas.Slice.{put_mid-paste}
use Rattle.rows.specs.Rows.{head_of, fresh_head}
use Rattle.rows.proofs.fresh_head.Goals as goal

pub returns : goal.returns
unfolding fresh_head
returns c = let e : c.copy_from_slice.new.self ≡ head_of c.args.e = search rules in put_mid-paste _ _ _ _ (head_of c.args.e) 12 e (omega arith) refl
