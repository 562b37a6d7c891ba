use Rattle.cells.proofs.CellLaws.{all_rendered, all_utf8}
use Rattle.cells.proofs.shown.render.Goals as goal

pub returns : goal.returns
returns g c =
    record {
      bytes = all_rendered (λ bytes. bytes.items) c.args.form _ _ _ c.into_bytes.result c.in_ok-out.ensures c.in_ok-show_object.ensures c.into_bytes.ensures.bytes;
      utf8 = all_utf8 (λ bytes. bytes.items) c.args.form _ _ _ c.into_bytes.result c.in_ok-out.ensures c.in_ok-show_object.ensures c.into_bytes.ensures.utf8;
    }
