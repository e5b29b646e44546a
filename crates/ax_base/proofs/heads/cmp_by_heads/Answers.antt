use Rattle.std.proofs.Common.{arith}
use Rattle.ax_base.proofs.HeadLemmas.{decided_by_heads, known_by_heads}
use Rattle.ax_base.proofs.heads.cmp_by_heads.Goals as goal

pub returns-in_default : goal.returns-in_default
returns-in_default c = decided_by_heads c.args.a.now c.args.b.now c.args.head_a c.args.head_b c.cmp.result c.note_bytes.ensures c.note_bytes-2.ensures c.requires.head_of_a c.requires.head_of_b c.cmp.ensures c.in_default.not-Equal

pub returns-in-Equal : goal.returns-in-Equal
returns-in-Equal c = known_by_heads c.args.a.now c.args.b.now c.args.head_a c.args.head_b c.cmp.result c.note_bytes.ensures c.note_bytes-2.ensures c.requires.head_of_a c.requires.head_of_b c.cmp.ensures c.in-Equal.is (omega arith) (omega arith)
