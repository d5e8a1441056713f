-- The description says where a text stands.
use Rattle.std.proofs.Common.{arith, sym, get_or, drop, length, ◌-◌, length-drop, length-take, length-take-le}
use Rattle.fetch.proofs.Texts.{text_inside}
use Rattle.fetch.proofs.described.Described.text.Goals as goal

pub slice_bounds-bytes-end : goal.slice_bounds-bytes-end
slice_bounds-bytes-end c =
    let start = get_or c.args.self.now.says.text_starts c.args.k 0 in
    let h = c.args.self.now.bytes.now in
    sym (length-take-le _ _ (omega (arith, text_inside c.args.self.now c.args.k, length-take (length h - start) (drop start h), length-drop start h)))
