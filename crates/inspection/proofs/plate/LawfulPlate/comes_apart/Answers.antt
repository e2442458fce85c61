use Rattle.inspection.specs.Soundness.{plate_in}
use Rattle.inspection.proofs.Judging.{table_apart}
use Rattle.inspection.proofs.plate.LawfulPlate.comes_apart.Goals as goal

pub returns : goal.returns
returns c =
    let made = c.put_places.ensures in
    table_apart (plate_in c.args.self.now) _ made.many made.there c.apart_either_way.result c.requires.sound (rw (c.from.ensures, c.whole_plate.ensures, c.as_slice.ensures.value) at c.apart_either_way.ensures)
