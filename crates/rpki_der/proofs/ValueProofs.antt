-- What the proofs on SEQUENCEs and families use of those on values, passed on by one name.
pub use Rattle.rpki_der.proofs.CursorReadings.{none_by, reads_optional_by}
pub use Rattle.rpki_der.proofs.ValueLists.{HasOctets, SoFar, each-nil, each_again, each_takes, loop_ends, loop_fails}
pub use Rattle.rpki_der.proofs.ValueLists.{loop_more, optional_err, optional_none, optional_some, shorter}
pub use Rattle.rpki_der.proofs.ValueLists.{value_has_octets}
pub use Rattle.rpki_der.proofs.ReadingModes.{bind_tightens, cond_tightens, each_tightens, found_is, lenient_is}
pub use Rattle.rpki_der.proofs.ReadingModes.{looked_tightens, passed_is, passes, passing_tightens, refused_at}
pub use Rattle.rpki_der.proofs.ReadingModes.{same_found, same_tightens}
pub use Rattle.rpki_der.proofs.ValueReadings.{IsTagged, content_reading, fits_content, fits_rest, one_front}
pub use Rattle.rpki_der.proofs.ValueReadings.{refined_reading, same_reading, u32_reading, value_reading}
pub use Rattle.rpki_der.proofs.ReadingSteps.{IsCheck, bind_ok, ok_is, ok_or_err, passed}
pub use Rattle.rpki_der.proofs.WrittenValues.{value_is}
