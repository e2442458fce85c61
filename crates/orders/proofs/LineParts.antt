-- The two lines of an order text as parts.
use Rattle.std.proofs.Common.{List, [], ◌∷◌, codes, refl, append_assoc}
use Rattle.text.specs.declared.fields.End.TheVariants.{Blank, Line}
use Rattle.text.specs.declared.fields.Letters.TheVariants.{Turn}
use Rattle.text.proofs.Parts.{Part, word, number, choice}
use Rattle.text.proofs.Forms.{Form}
use Rattle.orders.specs.Lines.{line_of_job, line_of_item, ShortHead, ShortItem}

abbrev pub job_parts : List Part
job_parts = word (codes "job ") ∷ number Blank ∷ number Blank ∷ number Blank ∷ number Blank ∷ number Line ∷ []

abbrev pub job_form : Form line_of_job ShortHead job_parts
job_form = record {
  values = λ x. (x.job, (x.length, (x.width, (x.saw, (x.trim, tt)))));
  of = λ v. record { job = v.0; length = v.1.0; width = v.1.1.0; saw = v.1.1.1.0; trim = v.1.1.1.1.0 };
  back = λ x. refl;
  there = λ v. refl;
  text = λ x rest. simp append_assoc;
  short = λ x s. (s.job, (s.length, (s.width, (s.saw, (s.trim, tt)))));
  kept = λ v s. record { job = s.0; length = s.1.0; width = s.1.1.0; saw = s.1.1.1.0; trim = s.1.1.1.1.0 };
}

abbrev pub item_parts : List Part
item_parts = word (codes "item ") ∷ number Blank ∷ number Blank ∷ choice Turn Blank ∷ number Blank ∷ number Line ∷ []

abbrev pub item_form : Form line_of_item ShortItem item_parts
item_form = record {
  values = λ x. (x.length, (x.width, (x.may_turn, (x.value, (x.ordered, tt)))));
  of = λ v. record { length = v.0; width = v.1.0; may_turn = v.1.1.0; value = v.1.1.1.0; ordered = v.1.1.1.1.0 };
  back = λ x. refl;
  there = λ v. refl;
  text = λ x rest. simp append_assoc;
  short = λ x s. (s.length, (s.width, (s.value, (s.ordered, tt))));
  kept = λ v s. record { length = s.0; width = s.1.0; value = s.1.1.0; ordered = s.1.1.1.0 };
}
