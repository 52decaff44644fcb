pub mod FreeParts
