mod KeptAgain
mod PartEnrolments
mod MetadataReplies
