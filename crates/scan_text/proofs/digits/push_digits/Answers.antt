use Rattle.scan_text.proofs.DigitText.{digits_are_text, ok_where}
use Rattle.scan_text.proofs.digits.push_digits.Goals as goal

pub unwrap-requires-2 : goal.unwrap-requires-2
unwrap-requires-2 c =
    let text = digits_are_text c.args.bytes.now _ (rw c.unwrap.ensures at c.encode_to_slice.ensures.written) in
    ok_where c.from_utf8.result _ _ _ text c.from_utf8.ensures.cases
