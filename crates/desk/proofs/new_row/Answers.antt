use Rattle.std.proofs.Common.{◌≡◌, ◌<◌, length, rules, arith}
use Rattle.desk.proofs.Shares.{best-inside, best-fits, empty-row, new_row_is}
use Rattle.desk.proofs.new_row.Goals as goal

pub returns-then-is_empty : goal.returns-then-is_empty
returns-then-is_empty c =
    let none : length c.args.row.now ≡ 0 = search rules in
    λ fs e u. empty-row _ _ fs _ _ _ none e

pub bounds-row-best : goal.bounds-row-best
bounds-row-best c =
    let some : 0 < length c.args.row.now = search rules in
    best-inside c.requires.keeps c.cut_row-cut.ensures some c.best-best.ensures

pub offset_bounds-row-best : goal.offset_bounds-row-best
offset_bounds-row-best c =
    let some : 0 < length c.args.row.now = search rules in
    omega (arith, best-inside c.requires.keeps c.cut_row-cut.ensures some c.best-best.ensures)

pub add-requires : goal.add-requires
add-requires c =
    let some : 0 < length c.args.row.now = search rules in
    best-fits c.requires.keeps c.cut_row-cut.ensures some c.best-best.ensures

pub returns : goal.returns
returns c =
    let a = c.args in
    λ fs e u. new_row_is a.s.0 a.t.0 c.requires.keeps fs e u c.best-best.ensures c.cut_row-cut.ensures c.add.ensures
