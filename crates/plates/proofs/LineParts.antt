-- The lines of a plate text as parts.
use Rattle.std.proofs.Common.{List, [], ◌∷◌, codes, refl, append_assoc}
use Rattle.text.specs.declared.fields.End.TheVariants.{Blank, Line}
use Rattle.text.specs.declared.fields.Letters.TheVariants.{Turn, Spare}
use Rattle.text.proofs.Parts.{Part, word, number, choice}
use Rattle.text.proofs.Forms.{Form}
use Rattle.plates.specs.Lines.{line_of_plate, line_of_kind, line_of_row, ShortSetting, ShortKind, ShortRow}

abbrev pub plate_parts : List Part
plate_parts = word (codes "plate ") ∷ number Blank ∷ number Blank ∷ number Blank ∷ number Line ∷ []

abbrev pub plate_form : Form line_of_plate ShortSetting plate_parts
plate_form = record {
  values = λ x. (x.length, (x.width, (x.saw, (x.stages, tt))));
  of = λ v. record { length = v.0; width = v.1.0; saw = v.1.1.0; stages = v.1.1.1.0 };
  back = λ x. refl;
  there = λ v. refl;
  text = λ x rest. simp append_assoc;
  short = λ x s. (s.length, (s.width, (s.saw, (s.stages, tt))));
  kept = λ v s. record { length = s.0; width = s.1.0; saw = s.1.1.0; stages = s.1.1.1.0 };
}

abbrev pub kind_parts : List Part
kind_parts = word (codes "kind ") ∷ number Blank ∷ number Blank ∷ choice Turn Line ∷ []

abbrev pub kind_form : Form line_of_kind ShortKind kind_parts
kind_form = record {
  values = λ x. (x.length, (x.width, (x.may_turn, tt)));
  of = λ v. record { length = v.0; width = v.1.0; may_turn = v.1.1.0 };
  back = λ x. refl;
  there = λ v. refl;
  text = λ x rest. simp append_assoc;
  short = λ x s. (s.length, (s.width, tt));
  kept = λ v s. record { length = s.0; width = s.1.0 };
}

abbrev pub row_parts : List Part
row_parts = number Blank ∷ choice Turn Blank ∷ number Blank ∷ number Blank ∷ choice Spare Blank ∷ number Blank ∷ number Line ∷ []

abbrev pub row_form : Form line_of_row ShortRow row_parts
row_form = record {
  values = λ x. (x.kind, (x.turned, (x.segment, (x.strip, (x.spare, (x.x, (x.y, tt)))))));
  of = λ v. record { kind = v.0; turned = v.1.0; segment = v.1.1.0; strip = v.1.1.1.0; spare = v.1.1.1.1.0; x = v.1.1.1.1.1.0; y = v.1.1.1.1.1.1.0 };
  back = λ x. refl;
  there = λ v. refl;
  text = λ x rest. simp append_assoc;
  short = λ x s. (s.kind, (s.segment, (s.strip, (s.x, (s.y, tt)))));
  kept = λ v s. record { kind = s.0; segment = s.1.0; strip = s.1.1.0; x = s.1.1.1.0; y = s.1.1.1.1.0 };
}
