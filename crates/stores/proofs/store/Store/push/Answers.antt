use Rattle.std.proofs.Common.{length, sym, refl, ap, ◌∙◌, arith}
use Rattle.stores.proofs.Stores.{row_fits, rows_count, put_block, pushed_codes, pushed_written, pushed}
use Rattle.stores.proofs.store.Store.push.Goals as goal

pub returns-then-n-self : goal.returns-then-n-self
returns-then-n-self g c = let n = rows_count c.args.self.now in let w = c.args.self.now.within in (omega arith, refl)

pub overflow_mul-n : goal.overflow_mul-n
overflow_mul-n g c = let f = row_fits c.args.self.now c.args.self.now.count c.if-n-self.false in omega arith

pub write_block-requires : goal.write_block-requires
write_block-requires g c =
    let f = row_fits c.args.self.now c.args.self.now.count c.if-n-self.false in
    let k = ap length c.encode.ensures.words ∙ g.met.C.Coding.lawful.wide c.args.row in
    let v = c.as_mut_slice.ensures.len in
    omega arith

pub invariant_of-self : goal.invariant_of-self
invariant_of-self g c =
    let law = g.met.C.Coding.lawful in
    let b = put_block c.args.self.now c.args.row law c.if-n-self.false _ _ _ c.as_mut_slice.ensures.value c.encode.ensures.words
    c.write_block.ensures.len c.write_block.ensures.before c.write_block.ensures.here c.write_block.ensures.after _ refl in
    record {
      room = c.args.self.now.room;
      within = omega arith;
      coded = pushed_codes c.args.self.now c.args.row law c.requires _ b;
      written = pushed_written c.args.self.now c.args.row law c.requires _ b;
    }

pub returns : goal.returns
returns g c =
    let law = g.met.C.Coding.lawful in
    let b = put_block c.args.self.now c.args.row law c.if-n-self.false _ _ _ c.as_mut_slice.ensures.value c.encode.ensures.words
    c.write_block.ensures.len c.write_block.ensures.before c.write_block.ensures.here c.write_block.ensures.after _ refl in
    (sym (rows_count c.args.self.now), pushed c.args.self.now c.args.row law c.requires _ b _ refl refl refl)
