use Rattle.std.proofs.Common.{◌≡◌, ◌+◌, ◌++◌, length, vec_items, ap, ◌∙◌, rules}
use Rattle.text.proofs.Forms.{passed_on}
use Rattle.text.specs.Texts.{Stops}
use Rattle.text.specs.declared.fields.Fault.{Fault}
use Rattle.plates.specs.Lines.{PlateLine, ShortSetting, line_of_plate}
use Rattle.plates.specs.declared.unread.Unread.TheVariants.{Line}
use Rattle.plates.proofs.Whole.{bad_first, kinds_unread, rows_unread, read_whole}
use Rattle.plates.proofs.read.read_plate.Goals as goal

pub returns-in_err-setting : goal.returns-in_err-setting
returns-in_err-setting c =
    let bad : (f : Fault) × Stops PlateLine c.args.text.now f.left.now = search rules in
    let first : c.in_err-setting.field-0.0 ≡ Line 1 = search rules in
    rw (passed_on c.from_residual.result c.from_residual.ensures.1, first) (bad_first c.args.text.now bad.0.left.now bad.1)

pub returns-in_err-kinds : goal.returns-in_err-kinds
returns-in_err-kinds c =
    let read : ShortSetting c.in_ok-setting.setting × (c.args.text.now ≡ line_of_plate c.in_ok-setting.setting ++ c.in_ok-setting.rest.now) = search rules in
    rw (passed_on c.from_residual-in_err-kinds.result c.from_residual-in_err-kinds.ensures.1)
    (kinds_unread c.args.text.now c.in_ok-setting.rest.now c.in_ok-setting.setting read.0 read.1 c.in_err-kinds.field-0.0 c.in_err-kinds.ensures)

pub returns-in_err-rows : goal.returns-in_err-rows
returns-in_err-rows c =
    let read : ShortSetting c.in_ok-setting.setting × (c.args.text.now ≡ line_of_plate c.in_ok-setting.setting ++ c.in_ok-setting.rest.now) = search rules in
    let ks = c.in_ok-kinds.kinds in
    let before : 1 + c.len.result ≡ 1 + length (vec_items ks) = ap (λ n. 1 + n) (c.len.ensures ∙ ks.ok.0) in
    rw (passed_on c.from_residual-in_err-rows.result c.from_residual-in_err-rows.ensures.1)
    (rows_unread c.args.text.now c.in_ok-setting.rest.now c.in_ok-setting.setting read.0 read.1 c.in_ok-kinds.rest.now (vec_items ks) c.in_ok-kinds.ensures
    c.in_err-rows.field-0.0 (1 + c.len.result) before c.in_err-rows.ensures)

pub returns : goal.returns
returns c =
    let read : ShortSetting c.in_ok-setting.setting × (c.args.text.now ≡ line_of_plate c.in_ok-setting.setting ++ c.in_ok-setting.rest.now) = search rules in
    read_whole c.args.text.now c.in_ok-setting.rest.now c.in_ok-setting.setting read.0 read.1 c.in_ok-kinds.rest.now (vec_items c.in_ok-kinds.kinds) c.in_ok-kinds.ensures
    (vec_items c.in_ok-rows.rows) c.in_ok-rows.field-0-1.now c.in_ok-rows.ensures
