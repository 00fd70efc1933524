use Rattle.tables.specs.Tables.{support_size}
use Rattle.plans.proofs.writer.Writer.+write.Given as goal

abbrev pub decreases-write : goal.decreases-write
decreases-write l = support_size l.h
